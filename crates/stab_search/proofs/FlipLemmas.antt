-- What errors flip together when one is put after others, left out or toggled; their totals and keys.
use Rattle.stab_search.proofs.Names.{◌≡◌, ℕ, zero, suc, ◌≤◌, ◌<◌, ◌⊎◌, inl, inr, refl, sym, ◌∙◌, ap, arith, true, false, List, [], ◌∷◌, ◌++◌, length, get_or, bit_xor, cases_lt, false≢true, ◌⊕◌, parity-false, odd, row, flipped_by_rows, has, toggle, key_of}
use Rattle.stab_search.proofs.ListLemmas.{by-bit, has-here, has-there, without}
use Rattle.stab_search.proofs.Totals.{total, bits, masks, total-append, total-without, total-toggle, total-same}
use Rattle.stab_parities.proofs.MergeLemmas.{odd-append}

-- what errors flip is a total

pub flips-total : (rows : List (List ℕ)) (i : ℕ) (xs : List ℕ) → flipped_by_rows rows xs i ≡ total false ◌⊕◌ (λ r. odd i (row rows r)) xs
flips-total rows i [] = refl
flips-total rows i (x ∷ xs) = ap (λ b. odd i (row rows x) ⊕ b) (flips-total rows i xs)

pub flips-push : (rows : List (List ℕ)) (xs : List ℕ) (g i : ℕ) → flipped_by_rows rows (xs ++ g ∷ []) i ≡ flipped_by_rows rows xs i ⊕ odd i (row rows g)
flips-push rows xs g i =
    flips-total rows i (xs ++ g ∷ [])
    ∙ total-append _ false ◌⊕◌ bits (λ r. odd i (row rows r)) xs (g ∷ [])
    ∙ ap (λ b. b ⊕ (odd i (row rows g) ⊕ false)) (sym (flips-total rows i xs))
    ∙ ap (λ b. flipped_by_rows rows xs i ⊕ b) (parity-false (odd i (row rows g)))

pub flips-without : (rows : List (List ℕ)) (g : ℕ) (xs : List ℕ) (i : ℕ) → has g xs ≡ true → flipped_by_rows rows xs i ≡ odd i (row rows g) ⊕ flipped_by_rows rows (without g xs) i
flips-without rows g xs i e =
    flips-total rows i xs
    ∙ total-without _ false ◌⊕◌ bits (λ r. odd i (row rows r)) g xs e
    ∙ ap (λ b. odd i (row rows g) ⊕ b) (sym (flips-total rows i (without g xs)))

pub flips-toggle : (rows : List (List ℕ)) (g : ℕ) (xs : List ℕ) (i : ℕ) → flipped_by_rows rows (toggle g xs) i ≡ odd i (row rows g) ⊕ flipped_by_rows rows xs i
flips-toggle rows g xs i =
    flips-total rows i (toggle g xs)
    ∙ total-toggle _ false ◌⊕◌ bits (λ r. odd i (row rows r)) g xs
    ∙ ap (λ b. odd i (row rows g) ⊕ b) (sym (flips-total rows i xs))

-- what some rows name

abbrev pub named_by : List (List ℕ) → List ℕ → List ℕ
named_by rows [] = []
named_by rows (r ∷ rs) = row rows r ++ named_by rows rs

pub odd-named : (rows : List (List ℕ)) (set : List ℕ) (i : ℕ) → odd i (named_by rows set) ≡ flipped_by_rows rows set i
odd-named rows [] i = refl
odd-named rows (r ∷ rs) i = odd-append i (row rows r) (named_by rows rs) ∙ ap (λ b. odd i (row rows r) ⊕ b) (odd-named rows rs i)

-- some error flips what errors flip together
pub namer : (rows : List (List ℕ)) (set : List ℕ) (i : ℕ) → flipped_by_rows rows set i ≡ true → (r : ℕ) × ((has r set ≡ true) × (odd i (row rows r) ≡ true))
namer rows [] i e = absurd (false≢true e)
namer rows (x ∷ xs) i e =
    by-bit (odd i (row rows x))
    (λ here. (x, (has-here x xs, here)))
    (λ other.
    let later = namer rows xs i (ap (λ b. b ⊕ flipped_by_rows rows xs i) (sym other) ∙ e) in
    (later.0, (has-there later.0 x xs later.1.0, later.1.1)))

-- keys

pub key-total : (numbers xs : List ℕ) → key_of numbers xs ≡ total 0 bit_xor (λ d. get_or numbers d 0) xs
key-total numbers [] = refl
key-total numbers (x ∷ xs) = ap (bit_xor (get_or numbers x 0)) (key-total numbers xs)

no_number : (numbers : List ℕ) (d : ℕ) → length numbers ≤ d → get_or numbers d 0 ≡ 0
no_number [] d le = refl
no_number (x ∷ xs) zero le = absurd (omega arith)
no_number (x ∷ xs) (suc d) le = no_number xs d (omega arith)

-- lists of the same detectors have one key
pub key-same : (numbers xs ys : List ℕ) → ((d : ℕ) → d < length numbers → odd d xs ≡ odd d ys) → key_of numbers xs ≡ key_of numbers ys
key-same numbers xs ys same =
    key-total numbers xs
    ∙ total-same _ 0 bit_xor masks (λ d. get_or numbers d 0) xs ys alike
    ∙ sym (key-total numbers ys)
  where
    alike : (d : ℕ) → (odd d xs ≡ odd d ys) ⊎ (get_or numbers d 0 ≡ 0)
    alike d = by_position (cases_lt d (length numbers))
      where
        by_position : (d < length numbers) ⊎ (length numbers ≤ d) → (odd d xs ≡ odd d ys) ⊎ (get_or numbers d 0 ≡ 0)
        by_position (inl lt) = inl (same d lt)
        by_position (inr le) = inr (no_number numbers d le)

-- and what two lists name together has the exclusive or of their keys
pub key-sum : (numbers sum xs ys : List ℕ) → ((d : ℕ) → d < length numbers → odd d sum ≡ odd d xs ⊕ odd d ys) → key_of numbers sum ≡ bit_xor (key_of numbers xs) (key_of numbers ys)
key-sum numbers sum xs ys same =
    key-same numbers sum (xs ++ ys) (λ d lt. same d lt ∙ sym (odd-append d xs ys))
    ∙ key-total numbers (xs ++ ys)
    ∙ total-append _ 0 bit_xor masks (λ d. get_or numbers d 0) xs ys
    ∙ ap (λ k. bit_xor k (total 0 bit_xor (λ d. get_or numbers d 0) ys)) (sym (key-total numbers xs))
    ∙ ap (bit_xor (key_of numbers xs)) (sym (key-total numbers ys))

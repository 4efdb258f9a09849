-- The first letter that is X or Y: what a walk over words knows.
use Rattle.stab_pauli.proofs.Names.{◌≡◌, ℕ, zero, suc, ◌+◌, ◌*◌, ◌/◌, ◌%◌, ◌^◌, ◌<◌, ◌≤◌, true, false, refl, sym, ◌∙◌, ap, List, [], ◌∷◌, length, get_or, take, arith, eqb, inl, inr, ◌⊎◌, bit_or, bit_at, trailing_zeros, list_any, w64, cases_order, le_or_l, le_or_r, bit_at-zero, bit_at-trailing_zeros, Letter, I, has_x, row_letters, IsRow, HasNoXBefore, IsFirstX, IfNone, Option, Some, None, get_or-take, get_or-drop}
use Rattle.stab_pauli.proofs.BlankLemmas.{fits}
use Rattle.stab_pauli.proofs.RowLemmas.{length-row}
use Rattle.stab_pauli.proofs.PaddedLemmas.{length-string}
use Rattle.std.specs.Prelude.{replicate, ◌-◌}
use Rattle.stab_pauli.proofs.PositionLemmas.{x_position, has_x_at_position}

-- a position before k, or at k or later
pub before : (j k : ℕ) → (j < k) ⊎ (k ≤ j)
before j k = by_order (cases_order j k)
  where
    by_order : (j ≡ k) ⊎ ((j < k) ⊎ (k < j)) → (j < k) ⊎ (k ≤ j)
    by_order (inl e) = inr (omega arith)
    by_order (inr (inl lt)) = inl lt
    by_order (inr (inr gt)) = inr (omega arith)

-- the letters of a word of zeros have no X part
pub still-word : (m : ℕ) (row : List ℕ) (w at : ℕ) → length row ≡ 8 * m → w < 4 * m → at ≡ 8 * (w / 4) + w % 4 → get_or row at 0 ≡ 0
    → HasNoXBefore (64 * w) (row_letters m row) → HasNoXBefore (64 * (w + 1)) (row_letters m row)
still-word m row w at e lt ea none h = λ j lj. by_position j lj (before j (64 * w))
  where
    by_position : (j : ℕ) → j < 64 * (w + 1) → (j < 64 * w) ⊎ (64 * w ≤ j) → has_x (get_or (row_letters m row) j I) ≡ false
    by_position j lj (inl early) = h j early
    by_position j lj (inr late) =
        let here : at ≡ x_position j = omega arith in
        has_x_at_position m row j at e (omega arith) here
        ∙ ap (λ n. eqb (bit_at n (j % 64)) 1) none ∙ ap (λ n. eqb n 1) (bit_at-zero (j % 64))

-- nor do those of a block whose X words are zeros
pub still-block : (m : ℕ) (row : List ℕ) (b : ℕ) → length row ≡ 8 * m → b < m
    → bit_or (bit_or (get_or row (8 * b) 0) (get_or row (8 * b + 1) 0)) (bit_or (get_or row (8 * b + 2) 0) (get_or row (8 * b + 3) 0)) ≡ 0
    → HasNoXBefore (256 * b) (row_letters m row) → HasNoXBefore (256 * (b + 1)) (row_letters m row)
still-block m row b e lt none h =
    let a0 = le_or_l (get_or row (8 * b) 0) (get_or row (8 * b + 1) 0) in
    let a1 = le_or_r (get_or row (8 * b) 0) (get_or row (8 * b + 1) 0) in
    let a2 = le_or_l (get_or row (8 * b + 2) 0) (get_or row (8 * b + 3) 0) in
    let a3 = le_or_r (get_or row (8 * b + 2) 0) (get_or row (8 * b + 3) 0) in
    let l = le_or_l (bit_or (get_or row (8 * b) 0) (get_or row (8 * b + 1) 0)) (bit_or (get_or row (8 * b + 2) 0) (get_or row (8 * b + 3) 0)) in
    let r = le_or_r (bit_or (get_or row (8 * b) 0) (get_or row (8 * b + 1) 0)) (bit_or (get_or row (8 * b + 2) 0) (get_or row (8 * b + 3) 0)) in
    let z0 : get_or row (8 * b) 0 ≡ 0 = omega arith in
    let z1 : get_or row (8 * b + 1) 0 ≡ 0 = omega arith in
    let z2 : get_or row (8 * b + 2) 0 ≡ 0 = omega arith in
    let z3 : get_or row (8 * b + 3) 0 ≡ 0 = omega arith in
    let s0 : HasNoXBefore (64 * (4 * b)) (row_letters m row) = λ j lj. h j (omega arith) in
    let s1 = still-word m row (4 * b) (8 * b) e (omega arith) (omega arith) z0 s0 in
    let s2 = still-word m row (4 * b + 1) (8 * b + 1) e (omega arith) (omega arith) z1 s1 in
    let s3 = still-word m row (4 * b + 1 + 1) (8 * b + 2) e (omega arith) (omega arith) z2 s2 in
    let s4 = still-word m row (4 * b + 1 + 1 + 1) (8 * b + 3) e (omega arith) (omega arith) z3 s3 in
    λ j lj. s4 j (omega arith)

-- a word that is not 0 has the first letter that is X or Y at its lowest 1
pub lowest_in_word : (x : ℕ) → 0 < x → x < 2 ^ 64 → trailing_zeros w64 x < 64
lowest_in_word x pos lt = (bit_at-trailing_zeros w64 x pos lt).0

first-has_x : (m : ℕ) (row : List ℕ) (w at : ℕ) → length row ≡ 8 * m → w < 4 * m → at ≡ 8 * (w / 4) + w % 4 → 0 < get_or row at 0 → get_or row at 0 < 2 ^ 64
    → has_x (get_or (row_letters m row) (64 * w + trailing_zeros w64 (get_or row at 0)) I) ≡ true
first-has_x m row w at e lt ea pos small =
    let t = lowest_in_word (get_or row at 0) pos small in
    let here : at ≡ x_position (64 * w + trailing_zeros w64 (get_or row at 0)) = omega arith in
    let bit : (64 * w + trailing_zeros w64 (get_or row at 0)) % 64 ≡ trailing_zeros w64 (get_or row at 0) = omega arith in
    has_x_at_position m row (64 * w + trailing_zeros w64 (get_or row at 0)) at e (omega arith) here
    ∙ ap (λ n. eqb (bit_at (get_or row at 0) n) 1) bit ∙ ap (λ n. eqb n 1) (bit_at-trailing_zeros w64 (get_or row at 0) pos small).1

first-none : (m : ℕ) (row : List ℕ) (w at : ℕ) → length row ≡ 8 * m → w < 4 * m → at ≡ 8 * (w / 4) + w % 4 → 0 < get_or row at 0 → get_or row at 0 < 2 ^ 64
    → HasNoXBefore (64 * w) (row_letters m row) → HasNoXBefore (64 * w + trailing_zeros w64 (get_or row at 0)) (row_letters m row)
first-none m row w at e lt ea pos small h = λ j lj. by_position j lj (before j (64 * w))
  where
    by_position : (j : ℕ) → j < 64 * w + trailing_zeros w64 (get_or row at 0) → (j < 64 * w) ⊎ (64 * w ≤ j) → has_x (get_or (row_letters m row) j I) ≡ false
    by_position j lj (inl early) = h j early
    by_position j lj (inr late) =
        let t = lowest_in_word (get_or row at 0) pos small in
        let here : at ≡ x_position j = omega arith in
        has_x_at_position m row j at e (omega arith) here
        ∙ ap (λ n. eqb n 1) ((bit_at-trailing_zeros w64 (get_or row at 0) pos small).2 (j % 64) (omega arith))

pub first-found : (m : ℕ) (row : List ℕ) (w at : ℕ) → length row ≡ 8 * m → w < 4 * m → at ≡ 8 * (w / 4) + w % 4 → 0 < get_or row at 0 → get_or row at 0 < 2 ^ 64
    → HasNoXBefore (64 * w) (row_letters m row) → IsFirstX (256 * m) (row_letters m row) (64 * w + trailing_zeros w64 (get_or row at 0))
first-found m row w at e lt ea pos small h = record {
  in_range = let t = lowest_in_word (get_or row at 0) pos small in omega arith;
  has_x_here = first-has_x m row w at e lt ea pos small;
  first = first-none m row w at e lt ea pos small h;
}

-- by all letters before a position

pub any_none : (k : ℕ) (p : List Letter) → HasNoXBefore k p → k ≤ length p → list_any has_x (take k p) ≡ false
any_none zero p h le = refl
any_none (suc k) [] h le = absurd (omega arith)
any_none (suc k) (x ∷ p) h le =
    let here : has_x x ≡ false = h 0 (omega arith) in
    let rest : list_any has_x (take k p) ≡ false = any_none k p (λ j lj. h (suc j) (omega arith)) (omega arith) in
    rw (here, rest) refl

get_or-replicate : (n k : ℕ) (x : Letter) → get_or (replicate n x) k x ≡ x
get_or-replicate zero k x = refl
get_or-replicate (suc n) zero x = refl
get_or-replicate (suc n) (suc k) x = get_or-replicate n k x

-- among the first n letters, if all later ones are I

HasNoXBefore-take : (n k : ℕ) (p : List Letter) → k ≤ n → HasNoXBefore k p → HasNoXBefore k (take n p)
HasNoXBefore-take n k p le h = λ j lj. ap has_x (get_or-take n p j I (omega arith)) ∙ h j lj

pub none_in_row : (n m : ℕ) (ws : List ℕ) → IsRow n m ws → HasNoXBefore (256 * m) (row_letters m ws) → list_any has_x (take n (row_letters m ws)) ≡ false
none_in_row n m ws is h =
    let f = fits n m is.blocks in
    let l = length-string n m ws is in
    let s : HasNoXBefore n (row_letters m ws) = λ j lj. h j (omega arith) in
    any_none n (row_letters m ws) s (rw (length-row m ws is.size) f)

-- what is past the last letter is I
pub blank_after : (n m : ℕ) (ws : List ℕ) (k : ℕ) → IsRow n m ws → n ≤ k → get_or (row_letters m ws) k I ≡ I
blank_after n m ws k is h =
    let there : n + (k - n) ≡ k = omega arith in
    ap (λ j. get_or (row_letters m ws) j I) (sym there) ∙ sym (get_or-drop n (row_letters m ws) (k - n) I) ∙ ap (λ p. get_or p (k - n) I) is.padded
    ∙ get_or-replicate (256 * m - n) (k - n) I

-- a letter that is X or Y is no padding
found_inside : (n m : ℕ) (ws : List ℕ) (k : ℕ) → IsRow n m ws → k < 256 * m → has_x (get_or (row_letters m ws) k I) ≡ true → k < n
found_inside n m ws k is lt e = by_position (before k n)
  where
    by_position : (k < n) ⊎ (n ≤ k) → k < n
    by_position (inl h) = h
    by_position (inr h) = absurd (no_x (ap has_x (sym (blank_after n m ws k is h)) ∙ e))
      where
        no_x : has_x I ≡ true → ⊥
        no_x q = cc

pub found_in_row : (n m : ℕ) (ws : List ℕ) (k : ℕ) → IsRow n m ws → IsFirstX (256 * m) (row_letters m ws) k → IsFirstX n (take n (row_letters m ws)) k
found_in_row n m ws k is found =
    let lt = found_inside n m ws k is found.in_range found.has_x_here in
    record {
      in_range = lt;
      has_x_here = ap has_x (get_or-take n (row_letters m ws) k I lt) ∙ found.has_x_here;
      first = HasNoXBefore-take n k (row_letters m ws) (omega arith) found.first;
    }

pub none_here : {P Q : Type 0} (r : Option ℕ) → IfNone r P → (P → Q) → IfNone r Q
none_here None p f = f p
none_here (Some k) p f = p

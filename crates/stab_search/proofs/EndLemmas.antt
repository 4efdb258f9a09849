-- Ends: an error is tried, or none is left to try.
use Rattle.stab_search.proofs.Names.{◌≡◌, ℕ, ◌+◌, ◌≤◌, ◌<◌, refl, sym, ◌∙◌, ap, subst, arith, Bool, true, false, ◌||◌, List, [], ◌∷◌, ◌++◌, length, get_or, bit_xor, ne_eqb, ◌==◌, eq-eqb, eqb-true, false≢true, length-append, list_any-append, ◌⊕◌, parity-comm, parity-assoc, parity-false, parity-self, parity-twice, AscendsFrom, IsAscending, ErrorTable, odd, row, flipped_by_rows, HasNoneWithin, has, rows_listed, Vec, key_of, Completes, MayFollow, CompletesSetWithin, NoEnds, NoEndsBy, Meet}
use Rattle.stab_parities.proofs.AscendingLemmas.{odd-below, named-ascending}
use Rattle.stab_search.proofs.FlipLemmas.{flips-push, flips-without, key-same, key-sum}
use Rattle.stab_parities.proofs.MergeLemmas.{odd-append}
use Rattle.stab_search.proofs.ListLemmas.{by-bit, each-has, each-push, all-each, has-at, has-here, has-there, without, without-here, without-there, each-without, length-without}

-- a bit is moved to the other side
parity-move : (a b c : Bool) → a ⊕ b ≡ c → b ≡ c ⊕ a
parity-move a b c e = sym (parity-twice a b) ∙ ap (λ t. a ⊕ t) e ∙ parity-comm a c

-- an error left out of a set

without-ascends : (m g : ℕ) (xs : List ℕ) → AscendsFrom m xs → AscendsFrom m (without g xs)
without-ascends m g [] a = tt
without-ascends m g (x ∷ xs) a =
    by-bit (x == g)
    (λ same. subst (AscendsFrom m) (sym (without-here g x xs same)) (lower m (x + 1) xs (let h = a.0 in omega arith) a.1))
    (λ other. subst (AscendsFrom m) (sym (without-there g x xs other)) (a.0, without-ascends (x + 1) g xs a.1))
  where
    lower : (m k : ℕ) (xs : List ℕ) → m ≤ k → AscendsFrom k xs → AscendsFrom m xs
    lower m k [] le a = tt
    lower m k (x ∷ xs) le a = (let h = a.0 in omega arith, a.1)

-- what is left was there
was-there : (h g : ℕ) (xs : List ℕ) → has h (without g xs) ≡ true → has h xs ≡ true
was-there h g [] e = e
was-there h g (x ∷ xs) e =
    by-bit (x == g)
    (λ same. has-there h x xs (sym (ap (has h) (without-here g x xs same)) ∙ e))
    (λ other.
    by-bit (x == h)
    (λ here. ap (λ b. b || has h xs) here)
    (λ there.
    has-there h x xs
    (was-there h g xs (ap (λ b. b || has h (without g xs)) (sym there) ∙ sym (ap (has h) (without-there g x xs other)) ∙ e))))

-- and it is not the one left out, of an ascending list
is-gone : (m g : ℕ) (xs : List ℕ) → AscendsFrom m xs → has g xs ≡ true → has g (without g xs) ≡ false
is-gone m g [] a e = absurd (false≢true e)
is-gone m g (x ∷ xs) a e =
    by-bit (x == g)
    (λ same.
    ap (has g) (without-here g x xs same) ∙ named-from (x + 1) xs g a.1
    ∙ odd-below (x + 1) xs g a.1 (let is = eqb-true x g same in omega arith))
    (λ other.
    ap (has g) (without-there g x xs other) ∙ ap (λ b. b || has g (without g xs)) other
    ∙ is-gone (x + 1) g xs a.1 (ap (λ b. b || has g xs) (sym other) ∙ e))
  where
    named-from : (m : ℕ) (xs : List ℕ) (g : ℕ) → AscendsFrom m xs → has g xs ≡ odd g xs
    named-from m xs g a = named-ascending xs g (low m xs a)
      where
        low : (m : ℕ) (xs : List ℕ) → AscendsFrom m xs → IsAscending xs
        low m [] a = tt
        low m (x ∷ xs) a = (omega arith, a.1)

-- a number of a list with one more at its end
pub at-end : (a : ℕ) (xs : List ℕ) (g : ℕ) {P : Type 0} → has a (xs ++ g ∷ []) ≡ true → (has a xs ≡ true → P) → (a ≡ g → P) → P
at-end a xs g e there here =
    by-bit (has a xs) there
    (λ none. here (alone (sym (ap (λ b. b || has a (g ∷ [])) none) ∙ sym (list_any-append (λ k. k == a) xs (g ∷ [])) ∙ e)))
  where
    alone : has a (g ∷ []) ≡ true → a ≡ g
    alone e = by-bit (g == a) (λ same. sym (eqb-true g a same)) (λ other. absurd (false≢true (sym (ap (λ b. b || false) other) ∙ e)))

-- the rest of a set follows those chosen and one of it
follows-without : (pairs : List (Vec ℕ)) (first g : ℕ) (path rest : List ℕ) → has g rest ≡ true → MayFollow pairs first path rest
    → MayFollow pairs first (path ++ g ∷ []) (without g rest)
follows-without pairs first g path rest there f = record {
  ascending = without-ascends 0 g rest f.ascending;
  later = each-without (λ r. first < r) g rest f.later;
  fresh = λ h left.
      list_any-append (λ k. k == h) path (g ∷ [])
      ∙ ap (λ b. b || has h (g ∷ [])) (f.fresh h (was-there h g rest left))
      ∙ ap (λ b. b || false) (ne_eqb g h (λ same. false≢true (sym (is-gone 0 g rest f.ascending there) ∙ subst (λ k. has k (without g rest) ≡ true) (sym same) left)));
  unpaired = λ a h in_path left.
      at-end a path g in_path
      (λ chosen. f.unpaired a h chosen (was-there h g rest left))
      (λ same. subst (λ k. has h (rows_listed pairs k) ≡ false) (sym same) (f.among g h there (was-there h g rest left)));
  among = λ a h in_a in_h. f.among a h (was-there a g rest in_a) (was-there h g rest in_h);
}

-- an error g tried, if `next` is flipped then

module _ (t : ErrorTable) (flipped next : List ℕ) (g : ℕ) (rest : List ℕ)
    (merged : (d : ℕ) → odd d next ≡ odd d flipped ⊕ odd d (row t.rows g)) where
  pub completes-push : g < length t.rows → Completes t next rest → Completes t flipped (rest ++ g ∷ [])
  completes-push lt e = record {
    inside = each-push (λ r. r < length t.rows) rest g lt e.inside;
    undetected = λ d l.
        flips-push t.rows rest g d ∙ ap (λ b. b ⊕ odd d (row t.rows g)) (e.undetected d l ∙ merged d)
        ∙ parity-assoc (odd d flipped) (odd d (row t.rows g)) (odd d (row t.rows g))
        ∙ ap (λ b. odd d flipped ⊕ b) (parity-self (odd d (row t.rows g))) ∙ parity-false (odd d flipped);
    observed = let o = e.observed.0 in (
      o,
      e.observed.1,
      ap (λ b. b ⊕ odd o flipped) (flips-push t.rows rest g o)
          ∙ parity-assoc (flipped_by_rows t.rows rest o) (odd o (row t.rows g)) (odd o flipped)
          ∙ ap (λ b. flipped_by_rows t.rows rest o ⊕ b) (parity-comm (odd o (row t.rows g)) (odd o flipped) ∙ sym (merged o))
          ∙ e.observed.2,
    );
  }

  pub completes-without : has g rest ≡ true → Completes t flipped rest → Completes t next (without g rest)
  completes-without there e = record {
    inside = each-without (λ r. r < length t.rows) g rest e.inside;
    undetected = λ d l.
        parity-move (odd d (row t.rows g)) (flipped_by_rows t.rows (without g rest) d) (odd d flipped) (sym (flips-without t.rows g rest d there) ∙ e.undetected d l)
        ∙ sym (merged d);
    observed = let o = e.observed.0 in (
      o,
      e.observed.1,
      ap (λ b. flipped_by_rows t.rows (without g rest) o ⊕ b) (merged o ∙ parity-comm (odd o flipped) (odd o (row t.rows g)))
          ∙ sym (parity-assoc (flipped_by_rows t.rows (without g rest) o) (odd o (row t.rows g)) (odd o flipped))
          ∙ ap (λ b. b ⊕ odd o flipped) (parity-comm (flipped_by_rows t.rows (without g rest) o) (odd o (row t.rows g)) ∙ sym (flips-without t.rows g rest o there))
          ∙ e.observed.2,
    );
  }

-- if no detector is flipped

pub no_ends-nothing : (t : ErrorTable) (pairs : List (Vec ℕ)) (first : ℕ) (path flipped : List ℕ) (left : ℕ) → HasNoneWithin t left → flipped ≡ []
    → NoEnds t pairs first path flipped left
no_ends-nothing t pairs first path flipped left none nothing rest ends count =
    let e = ends.completes in
    let more = none rest (record {
      inside = all-each (λ r. r < length t.rows) rest e.inside;
      undetected = λ d lt. e.undetected d lt ∙ ap (odd d) nothing;
      observed = let o = e.observed.0 in (
        o,
        e.observed.1,
        sym (parity-false (flipped_by_rows t.rows rest o)) ∙ ap (λ b. flipped_by_rows t.rows rest o ⊕ b) (sym (ap (odd o) nothing)) ∙ e.observed.2,
      );
    }) in
    omega arith

odd-head : (flipped : List ℕ) → IsAscending flipped → 0 < length flipped → odd (get_or flipped 0 0) flipped ≡ true
odd-head [] a lt = absurd (omega arith)
odd-head (k ∷ ks) a lt =
    ap (λ b. b ⊕ odd k ks) (eq-eqb k k refl) ∙ ap (λ b. true ⊕ b) (odd-below (k + 1) ks k a.1 (omega arith))

odd-first : (flipped : List ℕ) (i : ℕ) → IsAscending flipped → 0 < length flipped → i < get_or flipped 0 0 → odd i flipped ≡ false
odd-first [] i a some lt = refl
odd-first (k ∷ ks) i a some lt = odd-below k (k ∷ ks) i (omega arith, a.1) lt

pub completes-observed : (t : ErrorTable) (flipped : List ℕ) → IsAscending flipped → 0 < length flipped → t.detectors ≤ get_or flipped 0 0 → Completes t flipped []
completes-observed t flipped a some le = record {
  inside = tt;
  undetected = λ d lt. sym (odd-first flipped d a some (omega arith));
  observed = (get_or flipped 0 0, le, odd-head flipped a some);
}

-- if one is

pub completes-detected : (t : ErrorTable) (flipped : List ℕ) → IsAscending flipped → 0 < length flipped → get_or flipped 0 0 < t.detectors → Completes t flipped [] → ⊥
completes-detected t flipped a some lt e = false≢true (e.undetected (get_or flipped 0 0) lt ∙ odd-head flipped a some)

pub no_ends-over : (t : ErrorTable) (pairs : List (Vec ℕ)) (first : ℕ) (path flipped : List ℕ) (left : ℕ) → IsAscending flipped → 0 < length flipped
    → get_or flipped 0 0 < t.detectors → left ≡ 0 → NoEnds t pairs first path flipped left
no_ends-over t pairs first path flipped left a some lt over [] ends count = completes-detected t flipped a some lt ends.completes
no_ends-over t pairs first path flipped left a some lt over (r ∷ rest) ends count = absurd (omega arith)

-- all that meet each set were tried
pub no_ends-met : (t : ErrorTable) (pairs : List (Vec ℕ)) (first : ℕ) (path flipped : List ℕ) (left : ℕ) (at : List ℕ) → Meet t pairs first path flipped left at
    → ((k : ℕ) → k < length at → NoEndsBy t pairs first path flipped left (get_or at k 0)) → NoEnds t pairs first path flipped left
no_ends-met t pairs first path flipped left at meet tried rest ends count =
    let position = meet rest ends count in
    tried position.0 position.1.0 rest ends count position.1.1

-- if one error is left, its key is that of what is flipped

module _ (t : ErrorTable) (numbers : List ℕ) (pairs : List (Vec ℕ)) (first : ℕ) (path flipped : List ℕ) (few : length numbers ≤ t.detectors) where
  key-last : (h : ℕ) → Completes t flipped (h ∷ []) → key_of numbers (row t.rows h) ≡ key_of numbers flipped
  key-last h ends =
      key-same numbers (row t.rows h) flipped (λ d lt. sym (parity-false (odd d (row t.rows h))) ∙ ends.undetected d (omega arith))

  pub meet-last : (left : ℕ) (at : List ℕ) → left ≡ 1
      → ((r : ℕ) → r < length t.rows → key_of numbers (row t.rows r) ≡ key_of numbers flipped → has r at ≡ true) → Meet t pairs first path flipped left at
  meet-last left at one complete [] ends count = absurd (omega arith)
  meet-last left at one complete (h ∷ []) ends count =
      let position = has-at h at (complete h ends.completes.inside.0 (key-last h ends.completes)) in
      (position.0, (position.1.0, subst (λ r. has r (h ∷ []) ≡ true) (sym position.1.1) (has-here h [])))
  meet-last left at one complete (h ∷ r ∷ rest) ends count = absurd (omega arith)

  -- and with an error g in front of it that of both
  pub no_end-unkeyed : (g : ℕ)
      → ((r : ℕ) → r < length t.rows → key_of numbers (row t.rows r) ≡ bit_xor (key_of numbers flipped) (key_of numbers (row t.rows g)) → ⊥)
      → NoEndsBy t pairs first path flipped 2 g
  no_end-unkeyed g none rest ends count there =
      one (without g rest) (let shorter = length-without g rest there in omega arith)
      (completes-without t flipped (flipped ++ row t.rows g) g rest (λ d. odd-append d flipped (row t.rows g)) there ends.completes)
    where
      one : (others : List ℕ) → length others ≡ 1 → Completes t (flipped ++ row t.rows g) others → ⊥
      one [] count e = absurd (omega arith)
      one (h ∷ []) count e =
          none h e.inside.0
          (key-sum numbers (row t.rows h) flipped (row t.rows g)
          (λ d lt. sym (parity-false (odd d (row t.rows h))) ∙ e.undetected d (omega arith) ∙ odd-append d flipped (row t.rows g)))
      one (h ∷ r ∷ rest) count e = absurd (omega arith)

-- an error that is not after the first one, or that is tried

pub no_end-before : (t : ErrorTable) (pairs : List (Vec ℕ)) (first : ℕ) (path flipped : List ℕ) (left g : ℕ) → g ≤ first → NoEndsBy t pairs first path flipped left g
no_end-before t pairs first path flipped left g le rest ends count there =
    let later : first < g = each-has (λ r. first < r) g rest ends.follows.later there in omega arith

module _ (t : ErrorTable) (flipped next : List ℕ) (g : ℕ) (merged : (d : ℕ) → odd d next ≡ odd d flipped ⊕ odd d (row t.rows g)) where
  pub tried-none : (pairs : List (Vec ℕ)) (first left : ℕ) (path : List ℕ) → NoEnds t pairs first (path ++ g ∷ []) next left
      → NoEndsBy t pairs first path flipped (left + 1) g
  tried-none pairs first left path none rest ends count there =
      none (without g rest)
      (record { completes = completes-without t flipped next g rest merged there ends.completes; follows = follows-without pairs first g path rest there ends.follows })
      (let shorter = length-without g rest there in omega arith)

  pub tried-some : (left : ℕ) (rest : List ℕ) → g < length t.rows → CompletesSetWithin t next left rest → CompletesSetWithin t flipped (left + 1) (rest ++ g ∷ [])
  tried-some left rest lt e = record {
    ends = completes-push t flipped next g rest merged lt e.ends;
    within = let short = e.within in let longer = length-append rest (g ∷ []) in omega arith;
  }

pub completes-nothing : (t : ErrorTable) (flipped : List ℕ) → Completes t flipped [] → flipped ≡ [] → ⊥
completes-nothing t flipped e empty = false≢true (sym (ap (odd e.observed.0) empty) ∙ e.observed.2)

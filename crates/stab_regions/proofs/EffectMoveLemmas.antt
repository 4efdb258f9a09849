-- Effects that are moved: what rows show at the end of all steps, and before a step by what they show after it.
use Rattle.stab_regions.proofs.Names.{◌≡◌, ℕ, zero, suc, ◌+◌, ◌-◌, ◌*◌, ◌<◌, ◌≤◌, ◌^◌, ◌⊎◌, inl, inr, refl, sym, ◌∙◌, ap, subst, arith, Bool, true, false, ◌&&◌, List, [], ◌∷◌, length, set, if◌then◌else◌, ◌==◌, ne_eqb, eqb-true, cases_eq, cases_lt, slice_index_or, get_or_past, get_or-set_same, get_or-set_other, length-set, Letter, I, X, Z, ◌⊕◌, letters_anticommute, letter_at, Step, one, two, controlled, collapse, product, detector, observable, is_detector, detectors_of, Region, with_looks, region_before, odd, row, ShowsLetters, ShowsLooks, Counts, RegionRows, ShowsNumber, asked_about, HasOwn, HasNumbers, corrected_by, MovesRows}
use Rattle.stab_frames.specs.inner.Touches.{acts}
use Rattle.stab_regions.proofs.EffectLemmas.{end-size, region-size}
use Rattle.stab_regions.proofs.LeftLemmas.{cleared_by-size}
use Rattle.stab_regions.specs.inner.EffectsAt.{cleared, cleared_by, end_letters, first_part, numbers_in, effect_region, IsEffectsAt, ClearsQubit, ClearsReset, EffectsMoveTo}

-- the end of all steps

abbrev letter-by : (s t : Bool) → Letter
letter-by s t = if s then Z else if t then X else I

end-letter : (i first n q : ℕ) → q < n → letter_at (end_letters i first n) q ≡ letter-by (first + 2 * q == i) ((first + 2 * q) + 1 == i)
end-letter i first zero q lt = absurd (omega (arith, lt))
end-letter i first (suc n) zero lt = (λ t. letter-by (there t == i) (there t + 1 == i))
  where
    there : first ≡ first + 2 * zero
    there = omega arith
end-letter i first (suc n) (suc q) lt = end-letter i (first + 2) n q (omega (arith, lt)) ∙ (λ t. letter-by (there t == i) (there t + 1 == i))
  where
    there : (first + 2) + 2 * q ≡ first + 2 * suc q
    there = omega arith

x-of : (s t : Bool) → s ⊕ false ≡ letters_anticommute X (letter-by s t)
x-of true t = refl
x-of false true = refl
x-of false false = refl

z-of : (s t : Bool) → (s ≡ true → t ≡ false) → t ⊕ false ≡ letters_anticommute Z (letter-by s t)
z-of true true distinct = distinct refl
z-of true false distinct = refl
z-of false true distinct = refl
z-of false false distinct = refl

module _ (i first n : ℕ) (by_x by_z : List (List ℕ)) (long_x : length by_x ≡ n) (long_z : length by_z ≡ n)
    (is_x : (q : ℕ) → q < n → row by_x q ≡ (first + 2 * q) ∷ []) (is_z : (q : ℕ) → q < n → row by_z q ≡ ((first + 1) + 2 * q) ∷ []) where
  past : (rows : List (List ℕ)) (p : Letter) (q : ℕ) → length rows ≡ n → n ≤ q → letters_anticommute p I ≡ false
      → odd i (row rows q) ≡ letters_anticommute p (letter_at (end_letters i first n) q)
  past rows p q long ge none =
      ap (odd i) (get_or_past rows q [] (omega (arith, long, ge)))
      ∙ sym (ap (letters_anticommute p) (get_or_past (end_letters i first n) q I (omega (arith, ge, end-size i first n))) ∙ none)

  shows-x : (q : ℕ) → (q < n) ⊎ (n ≤ q) → odd i (row by_x q) ≡ letters_anticommute X (letter_at (end_letters i first n) q)
  shows-x q (inl lt) =
      ap (odd i) (is_x q lt) ∙ x-of (first + 2 * q == i) ((first + 2 * q) + 1 == i) ∙ ap (letters_anticommute X) (sym (end-letter i first n q lt))
  shows-x q (inr ge) = past by_x X q long_x ge refl

  shows-z : (q : ℕ) → (q < n) ⊎ (n ≤ q) → odd i (row by_z q) ≡ letters_anticommute Z (letter_at (end_letters i first n) q)
  shows-z q (inl lt) =
      ap (odd i) (is_z q lt) ∙ ap (λ k. (k == i) ⊕ false) (omega arith)
      ∙ z-of (first + 2 * q == i) ((first + 2 * q) + 1 == i) (λ e. ne_eqb ((first + 2 * q) + 1) i (λ other. let here : first + 2 * q ≡ i = eqb-true (first + 2 * q) i e in omega (arith, other, here)))
      ∙ ap (letters_anticommute Z) (sym (end-letter i first n q lt))
  shows-z q (inr ge) = past by_z Z q long_z ge refl

  pub end-shows : ShowsLetters i by_x by_z (end_letters i first n)
  end-shows = record { x = λ q. shows-x q (cases_lt q n); z = λ q. shows-z q (cases_lt q n) }

pub is-at-end : (c : Counts) (e : RegionRows) → numbers_in c < 2 ^ 32 → length e.by_x.items ≡ c.qubits → length e.by_z.items ≡ c.qubits
    → ((q : ℕ) → q < c.qubits → row e.by_x.items q ≡ (first_part c + 2 * q) ∷ []) → ((q : ℕ) → q < c.qubits → row e.by_z.items q ≡ ((first_part c + 1) + 2 * q) ∷ [])
    → e.records.items ≡ [] → e.record_end ≡ c.records → e.detector_end ≡ c.records + c.detectors → e.observable ≡ c.records + c.detectors → IsEffectsAt c [] e
is-at-end c e few long_x long_z is_x is_z none same_record same_detector same_observable = record {
  rows = long_z ∙ sym long_x;
  qubits = long_x;
  record_end = same_record ∙ omega arith;
  detector_end = same_detector ∙ omega arith;
  observable = same_observable;
  few = few;
  regions = λ i. record {
    letters = end-shows i (first_part c) c.qubits e.by_x.items e.by_z.items long_x long_z is_x is_z;
    looks = λ k. ap (λ (rows : List (List ℕ)). odd i (row rows k)) none;
  };
}

-- rows of a qubit that are cleared show no letter there

cleared-row : (i q k : ℕ) (p : Letter) (rows : List (List ℕ)) (letters : List Letter) → letters_anticommute p I ≡ false
    → odd i (row rows k) ≡ letters_anticommute p (letter_at letters k) → (k ≡ q) ⊎ (k ≡ q → ⊥)
    → odd i (row (set rows q []) k) ≡ letters_anticommute p (letter_at (set letters q I) k)
cleared-row i q k p rows letters none shows (inl e) =
    ap (odd i) (here rows [] (cases_lt q (length rows))) ∙ sym (ap (letters_anticommute p) (here letters I (cases_lt q (length letters))) ∙ none)
  where
    here : {A : Type 0} (xs : List A) (z : A) → (q < length xs) ⊎ (length xs ≤ q) → slice_index_or (set xs q z) k z ≡ z
    here xs z (inl lt) = ap (λ j. slice_index_or (set xs q z) j z) e ∙ get_or-set_same xs q z z lt
    here xs z (inr ge) = get_or_past (set xs q z) k z (omega (arith, ge, e, length-set xs q z))
cleared-row i q k p rows letters none shows (inr ne) =
    ap (odd i) (get_or-set_other rows q k [] [] ne) ∙ shows ∙ ap (letters_anticommute p) (sym (get_or-set_other letters q k I I ne))

pub cleared-shows : (b : Bool) (i q : ℕ) (old_x old_z new_x new_z : List (List ℕ)) (letters : List Letter)
    → new_x ≡ (if b then set old_x q [] else old_x) → new_z ≡ (if b then set old_z q [] else old_z)
    → ShowsLetters i old_x old_z letters → ShowsLetters i new_x new_z (cleared b q letters)
cleared-shows true i q old_x old_z new_x new_z letters is_x is_z shows = record {
  x = λ k. ap (λ (rows : List (List ℕ)). odd i (row rows k)) is_x ∙ cleared-row i q k X old_x letters refl (shows.x k) (cases_eq k q);
  z = λ k. ap (λ (rows : List (List ℕ)). odd i (row rows k)) is_z ∙ cleared-row i q k Z old_z letters refl (shows.z k) (cases_eq k q);
}
cleared-shows false i q old_x old_z new_x new_z letters is_x is_z shows = record {
  x = λ k. ap (λ (rows : List (List ℕ)). odd i (row rows k)) is_x ∙ shows.x k;
  z = λ k. ap (λ (rows : List (List ℕ)). odd i (row rows k)) is_z ∙ shows.z k;
}

-- a step that resets, of which the letters in front of it are taken away and what it measures is then moved over

cleared-long : {A : Type 0} (b : Bool) (q : ℕ) (z : A) (xs : List A) → length (if b then set xs q z else xs) ≡ length xs
cleared-long true q z xs = length-set xs q z
cleared-long false q z xs = refl

pub clears-reset : (x : Step) (q : ℕ) (l : Letter) (recorded inverted resets : Bool) (old new : RegionRows) → x ≡ collapse l q recorded inverted resets
    → ClearsQubit (resets && acts l) q old new → ClearsReset x old new
clears-reset x q l recorded inverted resets old new e clears =
    subst (λ (y : Step). ClearsReset y old new) (sym e) (record {
      rows = ap length clears.by_z ∙ cleared-long (resets && acts l) q [] old.by_z.items;
      qubits = ap length clears.by_x ∙ cleared-long (resets && acts l) q [] old.by_x.items;
      record_end = clears.record_end;
      detector_end = clears.detector_end;
      observable = clears.observable;
      regions = λ i r shows. record {
        letters = cleared-shows (resets && acts l) i q old.by_x.items old.by_z.items new.by_x.items new.by_z.items r.string.letters clears.by_x clears.by_z shows.letters;
        looks = subst (λ rows. ShowsLooks i rows r.looks) (sym (ap (λ rows. rows.items) clears.records)) shows.looks;
      };
    })

pub numbers-unchanged : (x : Step) (old new : RegionRows) → ClearsReset x old new → HasNumbers old x → HasNumbers new x
numbers-unchanged x old new clears has = record {
  record_few = subst (λ k. k < 2 ^ 32) (sym clears.record_end) has.record_few;
  detector_few = subst (λ k. k < 2 ^ 32) (sym clears.detector_end) has.detector_few;
  own = subst (λ d. HasOwn d new.observable x) (sym clears.detector_end) (subst (λ o. HasOwn old.detector_end o x) (sym clears.observable) has.own);
}

-- what is asked for is not taken away
asks-preserved : (x : Step) (ks : List ℕ) (r : Region) → with_looks ks (cleared_by x r) ≡ cleared_by x (with_looks ks r)
asks-preserved (one g q) ks r = refl
asks-preserved (two g a b) ks r = refl
asks-preserved (controlled l k q) ks r = refl
asks-preserved (collapse l q recorded inverted resets) ks r = refl
asks-preserved (product factors inverted) ks r = refl
asks-preserved (detector js) ks r = refl
asks-preserved (observable j js) ks r = refl

step-detectors : (b : Bool) (end total made : ℕ) → end ≡ total - made → (if b then end - 1 else end) ≡ total - (if b then 1 + made else made)
step-detectors true end total made e = omega (arith, e)
step-detectors false end total made e = e

-- moved over a step, effects are those before it
pub effects-move : (x : Step) (old mid new : RegionRows) → ClearsReset x old mid → MovesRows (length mid.by_x.items) x (corrected_by false x) mid new → EffectsMoveTo x old new
effects-move x old mid new clears moves = λ c back at.
    let moved : MovesRows c.qubits x (corrected_by false x) mid new = subst (λ n. MovesRows n x (corrected_by false x) mid new) (clears.qubits ∙ at.qubits) moves in
    record {
      rows = moved.rows ∙ clears.rows ∙ at.rows ∙ sym (moved.qubits ∙ clears.qubits);
      qubits = moved.qubits ∙ clears.qubits ∙ at.qubits;
      record_end = moved.record_end ∙ omega (arith, clears.record_end, at.record_end);
      detector_end = moved.detector_end ∙ step-detectors (is_detector x) mid.detector_end (c.records + c.detectors) (detectors_of back) (clears.detector_end ∙ at.detector_end);
      observable = moved.observable ∙ clears.observable ∙ at.observable;
      few = at.few;
      regions = λ i.
          subst (ShowsNumber new i)
          ((λ t.
          region_before c.qubits (corrected_by false x)
          (with_looks (asked_about ((clears.record_end ∙ at.record_end) t) ((clears.detector_end ∙ at.detector_end) t) ((clears.observable ∙ at.observable) t) i x)
          (cleared_by x (effect_region c i back))))
          ∙ ap (region_before c.qubits (corrected_by false x)) (asks-preserved x _ (effect_region c i back)))
          (moved.regions i (cleared_by x (effect_region c i back)) (cleared_by-size x (effect_region c i back) ∙ region-size c i back)
          (clears.regions i (effect_region c i back) (at.regions i)));
    }

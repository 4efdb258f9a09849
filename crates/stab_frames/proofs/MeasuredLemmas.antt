-- Measured tests: what a measurement answers and leaves by two tests that differ by the letters of a frame, with a pivot of it.
use Rattle.stab_frames.proofs.Names.{◌≡◌, ℕ, refl, sym, ◌∙◌, ap, subst, Bool, true, false, not, ◌&&◌, ◌||◌, List, length, arith, Option, Some, None, if◌then◌else◌, Letter, ◌⊕◌, Signed, minus, with_sign, anticommute, strings_anticommute, string_product, strings_anticommute-product_right, length-string_product, outcome_by, is_random_by, projected_by, IsStabiliserGroup, IsConjugated, IsPivot, not-true, not_both, both_false, both_true, times_where, IsPivotOf, IsEnough, flipped_by, letters_by}
use Rattle.stab_pauli.specs.Paulis.{product}
use Rattle.stab_frames.proofs.SignLemmas.{sign-sign, sign-twice, product-sign_left, product-sign_right}
use Rattle.stab_frames.proofs.PropagatedPointLemmas.{conjugated-over, conjugated-comm, conjugated-stabiliser}

-- what is random stays random
random-sides : (u v : Signed → Bool) (q : Signed) (x : Bool) → v q ≡ u (with_sign x q) → v (minus q) ≡ u (with_sign x (minus q)) → is_random_by v q ≡ is_random_by u q
random-sides u v q false e g = λ i. not (e i) && not (g i)
random-sides u v q true e g =
    (λ i. not (e i) && not ((g ∙ ap u (sign-twice true q)) i)) ∙ swapped (u (minus q)) (u q)
  where
    swapped : (a b : Bool) → (not a && not b) ≡ (not b && not a)
    swapped a b = grind arith

pub conjugated-random : (n : ℕ) (f : List Letter) (u v : Signed → Bool) → IsConjugated n f u v → (q : Signed) → length q.letters ≡ n
    → is_random_by v q ≡ is_random_by u q
conjugated-random n f u v h q l = random-sides u v q (strings_anticommute f q.letters) (h q l) (h (minus q) l)

-- on the other coin each outcome is flipped, fixed or random, if the letters anticommute with what is measured

pub opposite : (m k coin : Bool) → (m ≡ true → k ≡ false) → (if k then false else (if m then true else not coin)) ≡ not (if m then false else (if k then true else coin))
opposite true true coin distinct = let f : true ≡ false = distinct refl in cc
opposite true false coin distinct = refl
opposite false true coin distinct = refl
opposite false false coin distinct = refl

-- a projection, on outcomes that differ if the letters anticommute with what is measured

parities : (x a o : Bool) → (x ⊕ a) ⊕ (x ⊕ o) ≡ o ⊕ a
parities x a o = grind arith

module _ (n : ℕ) (f : List Letter) (u v : Signed → Bool) (h : IsConjugated n f u v) (q : Signed) (lq : length q.letters ≡ n) (o : Bool) where
  abbrev x : Bool
  x = strings_anticommute f q.letters

  product-conjugated : (p : Signed) → length p.letters ≡ n → anticommute q p ≡ false
      → v (product (with_sign (x ⊕ o) q) p) ≡ u (product (with_sign o q) (with_sign (strings_anticommute f p.letters) p))
  product-conjugated p lp e =
      ap v (product-sign_left (x ⊕ o) q p e)
      ∙ h (with_sign (x ⊕ o) (product q p)) (length-both)
      ∙ ap u (sign-sign (strings_anticommute f (string_product q.letters p.letters)) (x ⊕ o) (product q p))
      ∙ ap (λ b. u (with_sign b (product q p)))
      (ap (λ b. b ⊕ (x ⊕ o)) (strings_anticommute-product_right f q.letters p.letters) ∙ parities x (strings_anticommute f p.letters) o)
      ∙ ap u (sym (sign-sign o (strings_anticommute f p.letters) (product q p)))
      ∙ ap (λ r. u (with_sign o r)) (sym (product-sign_right (strings_anticommute f p.letters) q p e))
      ∙ ap u (sym (product-sign_left o q (with_sign (strings_anticommute f p.letters) p) e))
    where
      length-both : length (string_product q.letters p.letters) ≡ n
      length-both = length-string_product n q.letters p.letters lq lp

  projected-sides : (p : Signed) → length p.letters ≡ n → (b : Bool) → anticommute q p ≡ b
      → projected_by v q (x ⊕ o) p ≡ projected_by u q o (with_sign (strings_anticommute f p.letters) p)
  projected-sides p lp true e =
      ap (λ c. not c && (v p || v (product (with_sign (x ⊕ o) q) p))) e
      ∙ sym (ap (λ c. not c && (u (with_sign (strings_anticommute f p.letters) p)
      || u (product (with_sign o q) (with_sign (strings_anticommute f p.letters) p)))) e)
  projected-sides p lp false e = λ i. not (anticommute q p) && (h p lp i || product-conjugated p lp e i)

  pub conjugated-projected : IsConjugated n f (projected_by u q o) (projected_by v q (strings_anticommute f q.letters ⊕ o))
  conjugated-projected p lp = projected-sides p lp (anticommute q p) refl

-- with a pivot multiplied on, the outcomes differ if without it they don't
pub conjugated-pivoted : (n : ℕ) (f s : List Letter) (u v : Signed → Bool) → IsConjugated n f u v → IsStabiliserGroup n u → (q : Signed) → length q.letters ≡ n
    → IsPivot n u q s → (o : Bool) → IsConjugated n (string_product f s) (projected_by u q o) (projected_by v q (strings_anticommute f q.letters ⊕ not o))
conjugated-pivoted n f s u v h group q lq e o =
    conjugated-comm n s f (projected_by u q o) (projected_by v q (strings_anticommute f q.letters ⊕ not o))
    (conjugated-over n s f (projected_by u q o) (projected_by u q (not o)) (projected_by v q (strings_anticommute f q.letters ⊕ not o))
    (subst (λ b. IsConjugated n s (projected_by u q o) (projected_by u q (b ⊕ o))) e.anticommutes
    (conjugated-projected n s u u (conjugated-stabiliser n s u group e.size e.negative e.stabilises) q lq o))
    (conjugated-projected n f u v h q lq (not o)))

-- if there is a pivot, the outcome is random
pub pivoted-random : (n : ℕ) (u : Signed → Bool) → IsStabiliserGroup n u → (q : Signed) → length q.letters ≡ n → (s : List Letter) → IsPivot n u q s
    → is_random_by u q ≡ true
pivoted-random n u group q lq s e = λ i. not (out q lq e.anticommutes i) && not (out (minus q) lq e.anticommutes i)
  where
    out : (r : Signed) → length r.letters ≡ n → strings_anticommute s r.letters ≡ true → u r ≡ false
    out r lr distinct = not-true (u r) (λ m. not_both _ (group.commuting (record { negative = e.negative; letters = s }) r e.size lr e.stabilises m) distinct)

-- a measurement, with a pivot of it

not-twice : (b : Bool) → not (not b) ≡ b
not-twice b = grind arith

module _ (n : ℕ) (f : List Letter) (u v : Signed → Bool) (h : IsConjugated n f u v) (group : IsStabiliserGroup n u) (q : Signed) (lq : length q.letters ≡ n) where
  -- what commutes with the letters has the same outcome
  outcome-commuting : (coin : Bool) → strings_anticommute f q.letters ≡ false → outcome_by v q coin ≡ outcome_by u q coin
  outcome-commuting coin e = λ i.
      if (h q lq ∙ ap (λ b. u (with_sign b q)) e) i then false
      else (if (h (minus q) lq ∙ ap (λ b. u (with_sign b (minus q))) e) i then true else coin)

  -- what anticommutes has the other outcome on the other coin
  outcome-opposite : (coin : Bool) → strings_anticommute f q.letters ≡ true → outcome_by v q (not coin) ≡ not (outcome_by u q coin)
  outcome-opposite coin e =
      (λ i. if (h q lq ∙ ap (λ b. u (with_sign b q)) e) i then false
      else (if (h (minus q) lq ∙ ap (λ b. u (with_sign b (minus q))) e ∙ ap u (sign-twice true q)) i then true else not coin))
      ∙ opposite (u q) (u (minus q)) coin (group.one_sign q lq)

  -- a random outcome is the coin in both
  outcome-random : (s : List Letter) → IsPivot n u q s → (coin other : Bool) → (outcome_by u q coin ≡ coin) × (outcome_by v q other ≡ other)
  outcome-random s e coin other =
      let free : is_random_by u q ≡ true = pivoted-random n u group q lq s e in
      (both_true (u q) (u (minus q)) coin free, both_true (v q) (v (minus q)) other (conjugated-random n f u v h q lq ∙ free))

  -- and a fixed outcome depends on no coin
  outcome-fixed : (coin other b : Bool) → strings_anticommute f q.letters ≡ b → is_random_by u q ≡ false → outcome_by v q other ≡ b ⊕ outcome_by u q coin
  outcome-fixed coin other false e fixed = outcome-commuting other e ∙ both_false (u q) (u (minus q)) other coin fixed
  outcome-fixed coin other true e fixed =
      ap (outcome_by v q) (sym (not-twice other))
      ∙ outcome-opposite (not other) e
      ∙ ap not (both_false (u q) (u (minus q)) (not other) coin fixed)

  flipped-same : (pivot : Option (List Letter)) (change : Bool) → strings_anticommute f q.letters ≡ change → flipped_by pivot change q f ≡ change
  flipped-same None change e = e
  flipped-same (Some s) change e = refl

  -- by a right pivot
  outcome-has_pivots : (pivot : Option (List Letter)) (change : Bool) → IsPivotOf n u q pivot → (coin : Bool)
      → outcome_by v q (change ⊕ coin) ≡ flipped_by pivot change q f ⊕ outcome_by u q coin
  outcome-has_pivots None change right coin = outcome-fixed coin (change ⊕ coin) (strings_anticommute f q.letters) refl right
  outcome-has_pivots (Some s) change right coin =
      let free = outcome-random s right coin (change ⊕ coin) in
      free.1 ∙ ap (λ o. change ⊕ o) (sym free.0)

  outcome-enough : (pivot : Option (List Letter)) (change b : Bool) → strings_anticommute f q.letters ≡ b → (change ⊕ b ≡ true → IsPivotOf n u q pivot) → (coin : Bool)
      → outcome_by v q (change ⊕ coin) ≡ flipped_by pivot change q f ⊕ outcome_by u q coin
  outcome-enough pivot false false e enough coin = outcome-commuting coin e ∙ ap (λ b. b ⊕ outcome_by u q coin) (sym (flipped-same pivot false e))
  outcome-enough pivot true true e enough coin = outcome-opposite coin e ∙ ap (λ b. b ⊕ outcome_by u q coin) (sym (flipped-same pivot true e))
  outcome-enough pivot true false e enough coin = outcome-has_pivots pivot true (enough refl) coin
  outcome-enough pivot false true e enough coin = outcome-has_pivots pivot false (enough refl) coin

  pub outcome-flipped : (pivot : Option (List Letter)) (change : Bool) → IsEnough n u q f change pivot → (coin : Bool)
      → outcome_by v q (change ⊕ coin) ≡ flipped_by pivot change q f ⊕ outcome_by u q coin
  outcome-flipped pivot change enough coin = outcome-enough pivot change (strings_anticommute f q.letters) refl enough coin

  -- the letters after a measurement of which a string is recorded, by whether the coins differ and the letters anticommute with what is measured
  pivoted-conjugated : (s : List Letter) (change b : Bool) → strings_anticommute f q.letters ≡ b → (change ⊕ b ≡ true → IsPivot n u q s) → (o : Bool)
      → IsConjugated n (times_where (change ⊕ b) s f) (projected_by u q o) (projected_by v q (change ⊕ o))
  pivoted-conjugated s false false e enough o =
      subst (λ b. IsConjugated n f (projected_by u q o) (projected_by v q (b ⊕ o))) e (conjugated-projected n f u v h q lq o)
  pivoted-conjugated s true true e enough o =
      subst (λ b. IsConjugated n f (projected_by u q o) (projected_by v q (b ⊕ o))) e (conjugated-projected n f u v h q lq o)
  pivoted-conjugated s true false e enough o =
      subst (λ b. IsConjugated n (string_product f s) (projected_by u q o) (projected_by v q (b ⊕ not o))) e (conjugated-pivoted n f s u v h group q lq (enough refl) o)
  pivoted-conjugated s false true e enough o =
      subst (λ b. IsConjugated n (string_product f s) (projected_by u q o) (projected_by v q b)) (not-twice o)
      (subst (λ b. IsConjugated n (string_product f s) (projected_by u q o) (projected_by v q (b ⊕ not o))) e (conjugated-pivoted n f s u v h group q lq (enough refl) o))

  pub measured-conjugated : (pivot : Option (List Letter)) (change : Bool) → IsEnough n u q f change pivot → (o : Bool)
      → IsConjugated n (letters_by pivot change q f) (projected_by u q o) (projected_by v q (flipped_by pivot change q f ⊕ o))
  measured-conjugated None change enough o = conjugated-projected n f u v h q lq o
  measured-conjugated (Some s) change enough o = pivoted-conjugated s change (strings_anticommute f q.letters) refl enough o

  pivoted-length : length f ≡ n → (s : List Letter) (change b : Bool) → (change ⊕ b ≡ true → IsPivot n u q s) → length (times_where (change ⊕ b) s f) ≡ n
  pivoted-length size s false false enough = size
  pivoted-length size s true true enough = size
  pivoted-length size s true false enough = length-string_product n f s size (enough refl).size
  pivoted-length size s false true enough = length-string_product n f s size (enough refl).size

  pub length-measured : length f ≡ n → (pivot : Option (List Letter)) (change : Bool) → IsEnough n u q f change pivot → length (letters_by pivot change q f) ≡ n
  length-measured size None change enough = size
  length-measured size (Some s) change enough = pivoted-length size s change (strings_anticommute f q.letters) enough

-- Products: the string of a product, and measurements of strings whose outcome is fixed.
use Rattle.stab_run.proofs.Names.{◌≡◌, ℕ, refl, sym, ◌∙◌, ap, Bool, true, false, not, ◌&&◌, ◌||◌, List, [], ◌∷◌, length, set, if◌then◌else◌, length-replicate, length-set, Letter, I, Signed, identity, minus, with_sign, anticommute, product-twice, length-product, IsStabiliserGroup, outcome_by, projected_by, Factor, letter_of, with_factors, string_of}
use Rattle.stab_pauli.specs.Paulis.{product}

pub length-with_factors : (factors : List Factor) (letters : List Letter) → length (with_factors factors letters) ≡ length letters
length-with_factors [] letters = refl
length-with_factors (f ∷ fs) letters = length-with_factors fs (set letters f.qubit (letter_of f.letter)) ∙ length-set letters f.qubit (letter_of f.letter)

pub length-string_of : (n : ℕ) (factors : List Factor) → length (string_of n factors).letters ≡ n
length-string_of n factors = length-with_factors factors _ ∙ length-replicate n I

pub length_identity : (n : ℕ) → length (identity n).letters ≡ n
length_identity n = length-replicate n I

-- if one sign of a string stabilises

minus_stabilises : (x y coin : Bool) → (x ≡ true → y ≡ false) → y ≡ true → (if x then false else (if y then true else coin)) ≡ true
minus_stabilises true y coin distinct e = let f : y ≡ false = distinct refl in cc
minus_stabilises false true coin distinct e = refl
minus_stabilises false false coin distinct e = cc

left_as_is : (x y z : Bool) → (x ≡ true → y ≡ false) → (y ≡ false → z ≡ true → x ≡ true) → x ≡ (not y && (x || z))
left_as_is true true z distinct back = let e : true ≡ false = distinct refl in cc
left_as_is true false z distinct back = refl
left_as_is false true z distinct back = refl
left_as_is false false true distinct back = back refl refl
left_as_is false false false distinct back = refl

module _ (n : ℕ) (member : Signed → Bool) (group : IsStabiliserGroup n member) (p : Signed) (lp : length p.letters ≡ n) where
  pub fixed-outcome_by : (b : Bool) → member (with_sign b p) ≡ true → (coin : Bool) → outcome_by member p coin ≡ b
  fixed-outcome_by false e coin = ap (λ x. if x then false else (if member (minus p) then true else coin)) e
  fixed-outcome_by true e coin = minus_stabilises (member p) (member (minus p)) coin (group.one_sign p lp) e

  -- the group is left as it is
  pub fixed-projected_by : (b : Bool) → member (with_sign b p) ≡ true → (r : Signed) → length r.letters ≡ n → member r ≡ projected_by member p b r
  fixed-projected_by b e r lr =
      left_as_is (member r) (anticommute p r) (member (product w r))
      (λ in_group. group.commuting w r lp lr e in_group)
      (λ commutes in_group.
      ap member (sym (product-twice w r commutes (lp ∙ sym lr)))
      ∙ group.closed w (product w r) lp (length-product n w r lp lr) e in_group)
    where
      w : Signed
      w = with_sign b p

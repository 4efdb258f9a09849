-- Signs: they pass through products, and a letter that is applied as a gate flips the sign of what it anticommutes with.
use Rattle.stab_frames.proofs.Names.{◌≡◌, ℕ, ◌<◌, refl, sym, ◌∙◌, ap, arith, Bool, true, false, length, get_or, set-get_or, Letter, I, ◌⊕◌, letters_anticommute, Signed, single, minus, with_sign, anticommute, parity-assoc, parity-self, signed_path, product-comm, product-minus_right, anticommute-comm, letter_image, put_letter, inverse, back, one_letter-anticommute, gate_of}
use Rattle.stab_pauli.specs.Paulis.{product}

pub sign-sign : (a b : Bool) (p : Signed) → with_sign a (with_sign b p) ≡ with_sign (a ⊕ b) p
sign-sign a b p = signed_path _ _ (sym (parity-assoc a b p.negative)) refl

pub sign-twice : (a : Bool) (p : Signed) → with_sign a (with_sign a p) ≡ p
sign-twice a p = sign-sign a a p ∙ ap (λ b. with_sign b p) (parity-self a)

-- products of strings that commute

pub product-sign_right : (b : Bool) (p q : Signed) → anticommute p q ≡ false → product p (with_sign b q) ≡ with_sign b (product p q)
product-sign_right false p q e = refl
product-sign_right true p q e = product-minus_right p q e

product-minus_left : (p q : Signed) → anticommute p q ≡ false → product (minus p) q ≡ minus (product p q)
product-minus_left p q e =
    let conjugated : anticommute q p ≡ false = anticommute-comm q p ∙ e in
    product-comm (minus p) q e ∙ product-minus_right q p conjugated ∙ ap minus (product-comm q p conjugated)

pub product-sign_left : (b : Bool) (p q : Signed) → anticommute p q ≡ false → product (with_sign b p) q ≡ with_sign b (product p q)
product-sign_left false p q e = refl
product-sign_left true p q e = product-minus_left p q e

-- a letter as a gate

letter-gate : (l x : Letter) → letter_image (inverse (gate_of l)) x ≡ record { negative = letters_anticommute l x; letter = x }
letter-gate l x = grind arith

pub back-letter : (n q : ℕ) (l : Letter) (s : Signed) → length s.letters ≡ n → q < n
    → back (gate_of l) q s ≡ with_sign (anticommute (single n q l) s) s
back-letter n q l s long lt =
    ap (λ w. put_letter q w s) (letter-gate l (get_or s.letters q I))
    ∙ signed_path _ _ (ap (λ a. a ⊕ s.negative) (sym (one_letter-anticommute n q l s.letters long lt))) (set-get_or s.letters q I)

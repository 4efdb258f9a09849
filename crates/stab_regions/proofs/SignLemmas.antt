-- Signs: they pass through gates and products, and a letter that is applied flips the sign of what it anticommutes with.
use Rattle.stab_regions.proofs.Names.{◌≡◌, ℕ, ◌<◌, refl, sym, ◌∙◌, ap, Bool, true, false, ◌&&◌, List, length, Letter, ◌⊕◌, Signed, single, with_sign, anticommute, parity-assoc, parity-comm, signed_path, Gate, PairGate, letter_image, letter_at, image, image_pair, Event, member, sign-sign, product-sign_right, product-sign_left, back-letter, applied_where}
use Rattle.stab_pauli.specs.Paulis.{product}

pub parity-left : (a b c : Bool) → a ⊕ (b ⊕ c) ≡ b ⊕ (a ⊕ c)
parity-left a b c = sym (parity-assoc a b c) ∙ ap (λ x. x ⊕ c) (parity-comm a b) ∙ parity-assoc b a c

-- signs pass through gates

pub image-sign : (g : Gate) (q : ℕ) (b : Bool) (p : Signed) → image g q (with_sign b p) ≡ with_sign b (image g q p)
image-sign g q b p = signed_path _ _ (parity-left (letter_image g (letter_at p.letters q)).negative b p.negative) refl

pub pair-sign : (g : PairGate) (i j : ℕ) (b : Bool) (p : Signed) → image_pair g i j (with_sign b p) ≡ with_sign b (image_pair g i j p)
pair-sign g i j b p = signed_path _ _ (parity-left _ b p.negative) refl

-- and through products of strings that commute

pub product-signs : (a b : Bool) (p q : Signed) → anticommute p q ≡ false → product (with_sign a p) (with_sign b q) ≡ with_sign (a ⊕ b) (product p q)
product-signs a b p q e = product-sign_left a p (with_sign b q) e ∙ ap (with_sign a) (product-sign_right b p q e) ∙ sign-sign a b (product p q)

-- what a letter that is applied if a bit is 1 makes of members
pub member-where : (n q : ℕ) (l : Letter) (bit : Bool) (t : List Event) (s : Signed) → length s.letters ≡ n → q < n
    → member (applied_where bit l q t) s ≡ member t (with_sign (bit && anticommute (single n q l) s) s)
member-where n q l true t s long lt = ap (member t) (back-letter n q l s long lt)
member-where n q l false t s long lt = refl

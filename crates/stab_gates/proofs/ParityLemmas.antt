-- Parities: bits are a group under `⊕`, each its own inverse.
use Rattle.std.proofs.Common.{◌≡◌, Bool, true, false, not, IsTrue, refl, sym, ◌∙◌, ap}
use Rattle.stab_gates.specs.Letters.{◌⊕◌}

pub parity-false : (a : Bool) → a ⊕ false ≡ a
parity-false false = refl
parity-false true = refl

pub parity-self : (a : Bool) → a ⊕ a ≡ false
parity-self false = refl
parity-self true = refl

pub parity-comm : (a b : Bool) → a ⊕ b ≡ b ⊕ a
parity-comm false b = sym (parity-false b)
parity-comm true false = refl
parity-comm true true = refl

pub parity-assoc : (a b c : Bool) → (a ⊕ b) ⊕ c ≡ a ⊕ (b ⊕ c)
parity-assoc false b c = refl
parity-assoc true false c = refl
parity-assoc true true false = refl
parity-assoc true true true = refl

pub parity-mid : (a b c d : Bool) → (a ⊕ b) ⊕ (c ⊕ d) ≡ (a ⊕ c) ⊕ (b ⊕ d)
parity-mid a b c d =
    parity-assoc a b (c ⊕ d) ∙ ap (λ t. a ⊕ t) (sym (parity-assoc b c d) ∙ ap (λ t. t ⊕ d) (parity-comm b c) ∙ parity-assoc c b d)
    ∙ sym (parity-assoc a c (b ⊕ d))

-- the parity of one bit and twice another is the one bit
pub parity-twice : (a b : Bool) → a ⊕ (a ⊕ b) ≡ b
parity-twice a b = sym (parity-assoc a a b) ∙ ap (λ t. t ⊕ b) (parity-self a)

pub parity-not_right : (a b : Bool) → a ⊕ not b ≡ not (a ⊕ b)
parity-not_right false b = refl
parity-not_right true b = refl

pub not-true : (a : Bool) → IsTrue (not a) → a ≡ false
not-true false e = refl
not-true true e = cc

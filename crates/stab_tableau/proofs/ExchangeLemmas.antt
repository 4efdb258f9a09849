-- Exchanges: the number of the row at a position after two were exchanged.
use Rattle.stab_tableau.proofs.Names.{eq-eqb, eqb_tells, if◌then◌else◌, ◌≡◌, ℕ, eqb, ◌<◌, ◌≤◌, false, inl, inr, refl, sym, ◌∙◌, ap, arith, exchanged}
use Rattle.std.proofs.Common.{◌⊎◌}

pub exchanged-first : (a b : ℕ) → exchanged a b a ≡ b
exchanged-first a b = ap (λ t. if t then b else (if eqb a b then a else a)) (eq-eqb a a refl)

pub exchanged-second : (a b : ℕ) → exchanged a b b ≡ a
exchanged-second a b = elim (eqb_tells b a) [
  | inl same ↦ ap (λ t. if t then b else (if eqb b b then a else b)) same.0 ∙ same.1
  | inr other ↦ ap (λ t. if t then b else (if eqb b b then a else b)) other.0 ∙ ap (λ t. if t then a else b) (eq-eqb b b refl)
]

exchanged-other : (a b c : ℕ) → eqb c a ≡ false → eqb c b ≡ false → exchanged a b c ≡ c
exchanged-other a b c na nb = ap (λ t. if t then b else (if eqb c b then a else c)) na ∙ ap (λ t. if t then a else c) nb

-- it is one of the two, or stays
exchange-cases : (a b c : ℕ) → ((c ≡ a) × (exchanged a b c ≡ b)) ⊎ (((c ≡ b) × (exchanged a b c ≡ a)) ⊎ (exchanged a b c ≡ c))
exchange-cases a b c = elim (eqb_tells c a) [
  | inl same ↦ inl (same.1, ap (exchanged a b) same.1 ∙ exchanged-first a b)
  | inr na ↦ elim (eqb_tells c b) [
    | inl same ↦ inr (inl (same.1, ap (exchanged a b) same.1 ∙ exchanged-second a b))
    | inr nb ↦ inr (inr (exchanged-other a b c na.0 nb.0))
  ]
]

pub exchanged-twice : (a b c : ℕ) → exchanged a b (exchanged a b c) ≡ c
exchanged-twice a b c = elim (exchange-cases a b c) [
  | inl e ↦ ap (exchanged a b) e.1 ∙ exchanged-second a b ∙ sym e.0
  | inr rest ↦ elim rest [
    | inl e ↦ ap (exchanged a b) e.1 ∙ exchanged-first a b ∙ sym e.0
    | inr e ↦ ap (exchanged a b) e ∙ e
  ]
]

pub exchanged-below : (m a b c : ℕ) → a < m → b < m → c < m → exchanged a b c < m
exchanged-below m a b c la lb lc = elim (exchange-cases a b c) [
  | inl e ↦ let f = e.1 in omega arith
  | inr rest ↦ elim rest [
    | inl e ↦ let f = e.1 in omega arith
    | inr e ↦ omega (arith, e)
  ]
]

pub exchanged-high : (m a b c : ℕ) → m ≤ a → m ≤ b → m ≤ c → m ≤ exchanged a b c
exchanged-high m a b c la lb lc = elim (exchange-cases a b c) [
  | inl e ↦ let f = e.1 in omega arith
  | inr rest ↦ elim rest [
    | inl e ↦ let f = e.1 in omega arith
    | inr e ↦ omega (arith, e)
  ]
]

pub exchanged-low : (a b c : ℕ) → c < a → c < b → exchanged a b c ≡ c
exchanged-low a b c la lb = elim (exchange-cases a b c) [
  | inl e ↦ let f = e.0 in absurd (omega arith)
  | inr rest ↦ elim rest [
    | inl e ↦ let f = e.0 in absurd (omega arith)
    | inr e ↦ e
  ]
]

-- Halves of masks: what one half of the mask of 64 letters chooses among the 32 letters of a group.
use Rattle.stab_tableau.proofs.Names.{◌≡◌, ℕ, ◌+◌, ◌-◌, ◌*◌, ◌/◌, ◌%◌, ◌^◌, ◌<◌, ◌≤◌, true, false, inl, inr, sym, ◌∙◌, ap, List, length, arith, eqb, ◌⊎◌, bit_and, cases_lt, bit_at_and, bit_at_ones, bit_at_ones_above, bit_at-lt, Letter, I, chooses, unchosen, clash, bit_after, letter_at}
use Rattle.std.specs.Int.{bit_at}

-- the 32 bits of a mask after the first s
abbrev pub half : ℕ → ℕ → ℕ
half mask s = bit_and (mask / 2 ^ s) (2 ^ 32 - 1)

half-within : (mask s k : ℕ) → k < 32 → chooses (half mask s) k ≡ chooses mask (s + k)
half-within mask s k lt =
    let both = bit_at_and (mask / 2 ^ s) (2 ^ 32 - 1) k in
    let one = bit_at_ones 32 k lt in
    let below = bit_at-lt (mask / 2 ^ s) k in
    let e : bit_at (half mask s) k ≡ bit_at (mask / 2 ^ s) k = omega (arith, both, one, below) in
    ap (λ n. eqb n 1) (e ∙ bit_after mask s k)

half-past : (mask s k : ℕ) → 32 ≤ k → chooses (half mask s) k ≡ false
half-past mask s k le =
    let both = bit_at_and (mask / 2 ^ s) (2 ^ 32 - 1) k in
    let none = bit_at_ones_above 32 k le in
    unchosen (half mask s) k (omega (arith, both, none))

pub half-few : (mask s k : ℕ) → chooses (half mask s) k ≡ true → k < 32
half-few mask s k one = by_position (cases_lt k 32)
  where
    by_position : (k < 32) ⊎ (32 ≤ k) → k < 32
    by_position (inl lt) = lt
    by_position (inr le) = clash (chooses (half mask s) k) one (half-past mask s k le)

-- the letters of a group, by the mask of the 64 letters that hold it
module _ (letters : List Letter) (mask group : ℕ) where
  at : (k : ℕ) → 64 * (group / 2) + (32 * (group % 2) + k) ≡ 32 * group + k
  at k = omega arith

  pub group-inside : ((j : ℕ) → j < 64 → chooses mask j ≡ true → 64 * (group / 2) + j < length letters)
      → (k : ℕ) → chooses (half mask (32 * (group % 2))) k ≡ true → 32 * group + k < length letters
  group-inside inside k one =
      let lt = half-few mask (32 * (group % 2)) k one in
      let there = inside (32 * (group % 2) + k) (omega arith) (sym (half-within mask (32 * (group % 2)) k lt) ∙ one) in
      omega (arith, at k, there)

  pub group-unchosen : ((j : ℕ) → j < 64 → chooses mask j ≡ false → letter_at letters (64 * (group / 2) + j) ≡ I)
      → (k : ℕ) → k < 32 → chooses (half mask (32 * (group % 2))) k ≡ false → letter_at letters (32 * group + k) ≡ I
  group-unchosen unchosen k lt none =
      ap (letter_at letters) (sym (at k)) ∙ unchosen (32 * (group % 2) + k) (omega arith) (sym (half-within mask (32 * (group % 2)) k lt) ∙ none)

-- Format b8, one group of eight bits after another.
use Rattle.std.proofs.Common.{ℕ, zero, suc, sym, ◌≡◌, ◌<◌, ◌≤◌, ◌+◌, ◌*◌, ◌++◌, Bool, true, false, List, [], ◌∷◌, length, min, nat_lt, arith, refl, ap, ◌∙◌}
use Rattle.std.proofs.lemmas.Bool.Decides.{nat_tests}
use Rattle.std.proofs.lemmas.List.{nil_from_length, length-append, append-nil}
use Rattle.stab_results.specs.Formats.{number, b8_bytes}

-- a group of eight bits, or of those that are left, is one byte
pub group_byte : (group rest : List Bool) → 0 < length group → length group ≤ 8 → (length group < 8 → rest ≡ []) → b8_bytes (group ++ rest) ≡ number group ∷ b8_bytes rest
group_byte [] rest some most last = absurd (omega arith)
group_byte (a ∷ []) rest some most last = rw (last (omega arith)) refl
group_byte (a ∷ b ∷ []) rest some most last = rw (last (omega arith)) refl
group_byte (a ∷ b ∷ c ∷ []) rest some most last = rw (last (omega arith)) refl
group_byte (a ∷ b ∷ c ∷ d ∷ []) rest some most last = rw (last (omega arith)) refl
group_byte (a ∷ b ∷ c ∷ d ∷ e ∷ []) rest some most last = rw (last (omega arith)) refl
group_byte (a ∷ b ∷ c ∷ d ∷ e ∷ f ∷ []) rest some most last = rw (last (omega arith)) refl
group_byte (a ∷ b ∷ c ∷ d ∷ e ∷ f ∷ g ∷ []) rest some most last = rw (last (omega arith)) refl
group_byte (a ∷ b ∷ c ∷ d ∷ e ∷ f ∷ g ∷ h ∷ []) rest some most last = refl
group_byte (a ∷ b ∷ c ∷ d ∷ e ∷ f ∷ g ∷ h ∷ i ∷ more) rest some most last = absurd (omega arith)

-- what a step over groups of eight takes is one byte
pub next_group : (bits group rest : List Bool) (size byte : ℕ) →
    size ≡ 8 → bits ≡ group ++ rest → length group ≡ min size (length bits) → 0 < length bits → byte ≡ number group → b8_bytes bits ≡ byte ∷ b8_bytes rest
next_group bits group rest size byte eight cut short some is =
    let total : length bits ≡ length group + length rest = ap length cut ∙ length-append group rest in
    let group_is : length group ≡ min 8 (length bits) = short ∙ ap (λ n. min n (length bits)) eight in
    ap b8_bytes cut
    ∙ group_byte group rest (omega arith) (omega arith) (λ less. nil_from_length rest (omega arith))
    ∙ ap (λ n. n ∷ b8_bytes rest) (sym is)

-- whole groups, as many as there are in a block, come before the rest
pub block_bytes : (groups : ℕ) (block rest : List Bool) → length block ≡ 8 * groups → b8_bytes (block ++ rest) ≡ b8_bytes block ++ b8_bytes rest
block_bytes zero block rest long = rw (nil_from_length block (omega (arith, long))) refl
block_bytes (suc groups) (a ∷ b ∷ c ∷ d ∷ e ∷ f ∷ g ∷ h ∷ block) rest long =
    ap (λ l. number (a ∷ b ∷ c ∷ d ∷ e ∷ f ∷ g ∷ h ∷ []) ∷ l) (block_bytes groups block rest (omega (arith, long)))
block_bytes (suc groups) [] rest long = absurd (omega (arith, long))
block_bytes (suc groups) (a ∷ []) rest long = absurd (omega (arith, long))
block_bytes (suc groups) (a ∷ b ∷ []) rest long = absurd (omega (arith, long))
block_bytes (suc groups) (a ∷ b ∷ c ∷ []) rest long = absurd (omega (arith, long))
block_bytes (suc groups) (a ∷ b ∷ c ∷ d ∷ []) rest long = absurd (omega (arith, long))
block_bytes (suc groups) (a ∷ b ∷ c ∷ d ∷ e ∷ []) rest long = absurd (omega (arith, long))
block_bytes (suc groups) (a ∷ b ∷ c ∷ d ∷ e ∷ f ∷ []) rest long = absurd (omega (arith, long))
block_bytes (suc groups) (a ∷ b ∷ c ∷ d ∷ e ∷ f ∷ g ∷ []) rest long = absurd (omega (arith, long))

-- what a step over blocks of 64 takes is the bytes of one block
pub next_block : (bits block rest : List Bool) (size : ℕ) →
    size ≡ 64 → bits ≡ block ++ rest → length block ≡ min size (length bits) → b8_bytes bits ≡ b8_bytes block ++ b8_bytes rest
next_block bits block rest size is cut short = ap b8_bytes cut ∙ by_cases (nat_lt (length bits) 64) refl
  where
    total : length bits ≡ length block + length rest
    total = ap length cut ∙ length-append block rest

    by_cases : (b : Bool) → nat_lt (length bits) 64 ≡ b → b8_bytes (block ++ rest) ≡ b8_bytes block ++ b8_bytes rest
    by_cases true less =
        let none : rest ≡ [] = nil_from_length rest (grind (arith, nat_tests, total, is, short)) in
        rw none (ap b8_bytes (append-nil block) ∙ sym (append-nil (b8_bytes block)))
    by_cases false more = block_bytes 8 block rest (grind (arith, nat_tests, is, short))

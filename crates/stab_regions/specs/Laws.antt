-- Laws of regions: which parities of records are deterministic, and what they are.
-- Source: this project's own.
use Rattle.std.specs.Prelude.{◌≡◌, ℕ, Bool, true, false, not, List, [], ◌∷◌, All}
use Rattle.stab_gates.specs.Letters.{◌⊕◌}
use Rattle.stab_items.specs.Steps.{Step}
use Rattle.stab_run.specs.Records.{parity}
use Rattle.stab_run.specs.Points.{Point, origin, next_point}
use Rattle.stab_run.specs.ProgramStates.{StepFits}
use Rattle.stab_regions.specs.Regions.{is_deterministic, deterministic_bit}

-- the bit that is asked for at the end of steps: the parity of the records asked for on the way and at the end
abbrev pub bit_asked : ℕ → (ℕ → Bool) → (Step → List ℕ) → List Step → List ℕ → Point → Bool
bit_asked n coins asked [] ks p = parity p.records ks
bit_asked n coins asked (x ∷ xs) ks p = parity p.records (asked x) ⊕ bit_asked n coins asked xs ks (next_point n coins x p)

-- what is asked is a fixed bit, for all random bits, if the pass finds it deterministic
abbrev pub DeterministicBits : Type 0
DeterministicBits =
    (n : ℕ) (coins : ℕ → Bool) (asked : Step → List ℕ) (xs : List Step) (ks : List ℕ) → All (StepFits n) xs →
    is_deterministic n asked xs ks ≡ true → bit_asked n coins asked xs ks origin ≡ deterministic_bit n asked xs ks

-- what is not found deterministic is not: for all random bits there are others that give the other bit
abbrev pub RandomBits : Type 0
RandomBits =
    (n : ℕ) (asked : Step → List ℕ) (xs : List Step) (ks : List ℕ) → All (StepFits n) xs → is_deterministic n asked xs ks ≡ false →
    (coins : ℕ → Bool) → (others : ℕ → Bool) × (bit_asked n others asked xs ks origin ≡ not (bit_asked n coins asked xs ks origin))

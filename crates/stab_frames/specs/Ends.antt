-- Ends: which number the next coin may have, if no step after a point distinguishes it from another.
-- Source: this project's own.
use Rattle.std.specs.Prelude.{◌≡◌, ◌⊎◌, ℕ, Bool, List}
use Rattle.stab_items.specs.Steps.{Step}
use Rattle.stab_run.specs.Records.{ones}
use Rattle.stab_run.specs.Points.{Point, outputs}

-- of steps after a point the next coin may have this number too: it has it, or no coin decides there
abbrev pub MayHaveCoin : ℕ → (ℕ → Bool) → List Step → Point → ℕ → Type 0
MayHaveCoin n coins xs a c = (a.coin ≡ c) ⊎ (ones (outputs n coins xs a).free ≡ 0)

-- Counts: how many steps an edit of a recording takes, by where the replay of it begins and ends.
-- Source: this project's own.
use Rattle.std.specs.Prelude.{◌≡◌, ◌⊎◌, ℕ, ◌+◌, ◌-◌, ◌<◌, ◌≤◌, nat_le, if◌then◌else◌, Bool, false, List, [], ◌∷◌, IfSome, IsSomeAnd, slice_get}
use Rattle.stab_items.specs.Steps.{Step, looks_too_far}
use Rattle.stab_run.specs.Points.{Point}
use Rattle.stab_run.specs.Ends.{AgreeBack, with_coin}
use Rattle.stab_frames.specs.Ends.{MayHaveCoin}

-- two points before some steps have one group, the same number of the next coin unless none decides in these steps, and the same records
-- as far back as these look
abbrev pub AgreeAsFarAsLooked : ℕ → (ℕ → Bool) → List Step → Point → Point → Type 0
AgreeAsFarAsLooked n coins xs a b =
    MayHaveCoin n coins xs a b.coin × (window : ℕ) × (looks_too_far window xs ≡ false) × AgreeBack n window (with_coin b.coin a) b

-- of steps in order the last that is not after another step, and the given one if none is
abbrev pub last_until : ℕ → ℕ → List ℕ → ℕ
last_until step a [] = a
last_until step a (b ∷ more) = if nat_le b step then last_until step b more else a

-- an old checkpoint that an edit may come to: after the first changed step, and not before the end of what was taken out
abbrev pub MayBeMet : ℕ → ℕ → ℕ → Type 0
MayBeMet first old_end c = (first < c) × (old_end ≤ c)

-- a step is the end of the new steps, or where such a checkpoint is among them, and the runs agree there
abbrev pub EndsAt : (ℕ → Type 0) → List ℕ → ℕ → ℕ → ℕ → ℕ → ℕ → Type 0
EndsAt agree checkpoints first old_end new_end total step =
    (step ≡ total)
    ⊎ (number : ℕ) × IsSomeAnd (slice_get checkpoints number) (λ c. MayBeMet first old_end c × (step ≡ new_end + (c - old_end)) × agree (c - old_end))

-- if such checkpoints are before a step, the runs do not agree
abbrev pub NoneBefore : (ℕ → Type 0) → List ℕ → ℕ → ℕ → ℕ → ℕ → Type 0
NoneBefore agree checkpoints first old_end new_end step =
    (number : ℕ) → IfSome (slice_get checkpoints number) (λ c. MayBeMet first old_end c → new_end + (c - old_end) < step → agree (c - old_end) → ⊥)

-- this many steps were carried out, or passed by a frame: from the last old checkpoint at or before the first changed step to one that may
-- be met at which the runs agree as far back as the steps after look, or to the end; and at none before that do they agree in all
pub record IsCounted (agree agree_back : ℕ → Type 0) (checkpoints : List ℕ) (first old_end new_end total applied : ℕ) : Type 0 where
  pub end : ℕ
  pub count : applied + last_until first 0 checkpoints ≡ end
  pub ends : EndsAt agree_back checkpoints first old_end new_end total end
  pub none_before : NoneBefore agree checkpoints first old_end new_end end

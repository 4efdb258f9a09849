-- Stops: what holds where a propagation ends.
-- Source: this project's own.
use Rattle.std.specs.Prelude.{◌≡◌, ℕ}
use Rattle.stab_recording.specs.declared.propagate.Stop.{Stop}
use Rattle.stab_recording.specs.declared.propagate.Stop.TheVariants.{After, Gone, NoString}
use Rattle.stab_frames.specs.Propagations.{PropagationState, frame_at, IsGone}

-- a propagation over a number of steps passed all of them, or its frame is gone wherever it began; of one that can't go on no more
-- is said
abbrev pub IsStop : ℕ → ℕ → (steps most : ℕ) → PropagationState → Stop → Type 0
IsStop n m steps most w After = steps ≡ most
IsStop n m steps most w Gone = (base : ℕ) → IsGone n m (frame_at base w)
IsStop n m steps most w NoString = Unit {0}

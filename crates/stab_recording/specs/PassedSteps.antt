-- Passed steps: what a frame needs that is propagated over the steps of a cursor, and how far it comes.
-- Source: this project's own.
use Rattle.std.specs.Prelude.{◌≡◌, ◌≢◌, ℕ, ◌+◌, ◌-◌, ◌^◌, ◌<◌, ◌≤◌, Bool, List, All, length, take, drop}
use Rattle.stab_gates.specs.declared.letter.Letter.{Letter}
use Rattle.stab_items.specs.Steps.{Step}
use Rattle.stab_run.specs.Points.{all_coins_of}
use Rattle.stab_run.specs.ProgramStates.{StepFits}
use Rattle.stab_frames.specs.Pivots.{PivotsState}
use Rattle.stab_frames.specs.Propagations.{PropagationState, IsPlaced}
use Rattle.stab_frames.specs.inner.Propagates.{IsMissing}
use Rattle.stab_recording.specs.declared.propagate.Propagated.{Propagated}
use Rattle.stab_recording.specs.declared.propagate.Stop.TheVariants.{NoString}
use Rattle.stab_recording.specs.Stops.{IsStop}

-- a frame can be propagated over these steps of a run with these pivots and this randomness: it is on as many qubits, knows its position in the randomness, and
-- coin numbers, of which those of the other run are this much greater, and the count of steps stay far below 2 ^ 64
pub record MayPropagate (strings : PivotsState) (free : List Bool) (ahead : ℕ) (left : List Step) (passed : ℕ) (w : PropagationState) : Type 0 where
  pub same_length : strings.qubits ≡ length w.letters
  pub fits : All (StepFits (length w.letters)) left
  pub placed : IsPlaced free w
  pub few : ahead + (w.coin + length left) < 2 ^ 63
  pub few_passed : passed + length left < 2 ^ 63

-- how a propagation over at most this many of the steps `old` ended, of a frame that had come to this coin: how many it passed, which are left,
-- and why it ended; no fewer are counted than it passed
pub record HasPassed (n window most : ℕ) (strings : List (List Letter)) (free : List Bool) (coin : ℕ) (old new : List Step) (before after : ℕ) (w : PropagationState) (p : Propagated) : Type 0 where
  pub within : p.steps ≤ length (take most old)
  pub left : p.stop ≢ NoString → new ≡ drop p.steps old
  pub stop : IsStop n window p.steps (length (take most old)) w p.stop
  pub counted : before + p.steps ≤ after
  pub missing : p.stop ≡ NoString → IsMissing strings free (coin + all_coins_of (take (after - before) old))

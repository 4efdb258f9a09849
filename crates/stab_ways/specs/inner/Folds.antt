-- Folds: rounds that a string goes through as it went through earlier ones.
use Rattle.std.specs.Prelude.{◌≡◌, ◌≤◌, ◌<◌, ◌⊎◌, ℕ, ◌+◌, ◌-◌, List, ◌++◌, All, length, take, drop, map, Option, Some, None}
use Rattle.stab_gates.specs.declared.letter.Letter.{Letter}
use Rattle.stab_run.specs.Records.{looked_up}
use Rattle.stab_run.specs.Points.{joined}
use Rattle.stab_run.specs.Cuts.{lengths_of, rest_of}
use Rattle.stab_ways.specs.declared.folds.Checkpoint.{Checkpoint}
use Rattle.stab_ways.specs.Ways.{Part, Turn, part_rounds}
use Rattle.stab_ways.specs.inner.Walks.{WalkState, walked}

-- a checkpoint keeps these of a walk
pub record IsWalkStored (c : Checkpoint) (w : WalkState) : Type 0 where
  pub letters : c.letters.items ≡ w.frame.letters
  pub lengths : c.lengths ≡ lengths_of w.frame.flips
  pub each : length w.frame.flips.outcomes ≡ length w.frame.flips.free
  pub coin : c.coin ≡ w.frame.coin
  pub steps : c.steps ≡ w.steps
  pub waits : c.waits ≡ w.waits
  pub turns : c.turns ≡ length w.turns

-- after this many rounds of a block a walk has come from a checkpoint, over those since
pub record CameFrom (n : ℕ) (string : List Letter) (parts : List Part) (c : Checkpoint) (done : ℕ) (w : WalkState) : Type 0 where
  pub earlier : c.done ≤ done
  pub state : WalkState
  pub preserved : IsWalkStored c state
  pub over : w ≡ walked n string (part_rounds (done - c.done) parts) state

-- a checkpoint is as it was, or keeps a walk after this many rounds
abbrev pub StaysOrIsStored : (old new : Checkpoint) → ℕ → WalkState → Type 0
StaysOrIsStored old new done w = (new ≡ old) ⊎ ((new.done ≡ done) × IsWalkStored new w)

-- what has grown since a checkpoint
pub record IsSince (c : Checkpoint) (w : WalkState) : Type 0 where
  pub steps : c.steps ≤ w.steps
  pub coin : c.coin ≤ w.frame.coin
  pub coins : w.frame.coin + c.steps ≤ c.coin + w.steps
  pub within : All (λ t. t.after ≤ w.steps) (drop c.turns w.turns)

-- a string that is not yet put in is not put in over this many steps from a checkpoint on, and as many again
abbrev pub WaitsLonger : ℕ → Option ℕ → Type 0
WaitsLonger steps None = Unit {0}
WaitsLonger steps (Some k) = steps + steps < k

-- a walk is as it was at a checkpoint, for steps that look no further back than the newest records, as many as this
pub record IsWalkAgain (window : ℕ) (c : Checkpoint) (w : WalkState) : Type 0 where
  pub letters : c.letters.items ≡ w.frame.letters
  pub records : (k : ℕ) → k ≤ window → looked_up (take c.lengths.records w.frame.flips.records) k ≡ looked_up w.frame.flips.records k
  pub waits : WaitsLonger (w.steps - c.steps) c.waits

-- what is listed, this many steps later
abbrev pub later : ℕ → Turn → Turn
later steps t = record t { after = t.after + steps }

-- after this many steps more are to come until the string is put in
abbrev pub waits_after : ℕ → Option ℕ → Option ℕ
waits_after steps None = None
waits_after steps (Some k) = Some (k - steps)

-- what it passed since a checkpoint is passed again
abbrev pub again : Checkpoint → WalkState → WalkState
again c w = record w {
  steps = w.steps + (w.steps - c.steps);
  waits = waits_after (w.steps - c.steps) w.waits;
  frame = record w.frame { flips = joined w.frame.flips (rest_of c.lengths w.frame.flips); coin = w.frame.coin + (w.frame.coin - c.coin) };
  turns = w.turns ++ map (later (w.steps - c.steps)) (drop c.turns w.turns);
}

-- First steps: those of two circuits, after which both go on with the same steps.
-- Source: this project's own.
use Rattle.std.specs.Prelude.{◌≡◌, ℕ, Bool, false, List, ◌++◌, length, map, replicate, Option}
use Rattle.stab_gates.specs.declared.letter.Letter.{Letter}
use Rattle.stab_pauli.specs.Paulis.{string_product}
use Rattle.stab_items.specs.Steps.{Step, one}
use Rattle.stab_run.specs.Runs.{start, gate_of, run}
use Rattle.stab_run.specs.Points.{RunOutput, origin, joined, point_after, outputs, with_additions}
use Rattle.stab_frames.specs.Flips.{flipped, flipped_output, unflipped, Matches}
use Rattle.stab_frames.specs.Frames.{Frame, PointsDifferBy, frame_of}
use Rattle.stab_frames.specs.RunPivots.{same_coins}
use Rattle.stab_frames.specs.FrameSteps.{flips_over}
use Rattle.stab_frames.specs.Starts.{letters_on}

-- steps with some coins and steps with others lead from the start to points that differ by a frame, and give what differs by flips
pub record AreFronts (n : ℕ) (coins others : ℕ → Bool) (old new : List Step) (f : Frame) (flips : RunOutput) : Type 0 where
  pub by_frame : PointsDifferBy n f (point_after n coins old origin) (point_after n others new origin)
  pub given : outputs n others new origin ≡ flipped_output (outputs n coins old origin) flips
  pub matches : Matches (outputs n coins old origin) flips

-- the run of other steps with other coins shows what the one shows, flipped, however many observables there are
pub record IsFlippedRun (n : ℕ) (coins others : ℕ → Bool) (old new : List Step) (flips : RunOutput) : Type 0 where
  pub records : (k : ℕ) → (run n others new (start k)).records ≡ flipped (run n coins old (start k)).records flips.records
  pub free : (k : ℕ) → (run n others new (start k)).free ≡ flipped (run n coins old (start k)).free flips.free
  pub detectors : (k : ℕ) → (run n others new (start k)).detectors ≡ flipped (run n coins old (start k)).detectors flips.detectors
  pub observables : (k : ℕ) → (run n others new (start k)).observables
      ≡ flipped (run n coins old (start k)).observables (with_additions flips.additions (replicate k false))

-- steps with a letter applied to each of some qubits after them
abbrev pub with_letters : List Step → Letter → List ℕ → List Step
with_letters front l qs = front ++ map (one (gate_of l)) qs

-- the frame after such letters, to that after others instead of them, or after none
abbrev pub edit_frame : ℕ → (ℕ → Bool) → List Step → Letter → List ℕ → Letter → List ℕ → Frame
edit_frame n coins front l qs m rs = frame_of (string_product (letters_on n l qs) (letters_on n m rs)) (length (point_after n coins front origin).records)

-- what these flip in all that the front, and steps after, give
abbrev pub edit_flips : ℕ → (ℕ → Bool) → (ℕ → Option (List Letter)) → List Step → Letter → List ℕ → Letter → List ℕ → List Step → RunOutput
edit_flips n coins strings front l qs m rs back =
    joined (unflipped (outputs n coins front origin))
    (flips_over n (same_coins strings) back (point_after n coins (with_letters front l qs) origin).coin (edit_frame n coins front l qs m rs))

-- Frames over the rest: a frame propagated over the steps of a run, past checkpoints of its state, and what it made of these checkpoints.
-- Source: this project's own.
use Rattle.std.specs.Prelude.{◌≡◌, ◌⊎◌, ℕ, ◌-◌, ◌≤◌, Bool, true, false, List, [], ◌∷◌, All, Option, Some, length, take, drop, replicate, slice_get}
use Rattle.stab_gates.specs.declared.letter.Letter.{Letter}
use Rattle.stab_gates.specs.declared.letter.Letter.TheVariants.{I}
use Rattle.stab_pauli.specs.Paulis.{Signed, minus, strings_anticommute}
use Rattle.stab_tableau.specs.Tableaus.{TableauState, stabilises}
use Rattle.stab_tableau.specs.Conjugations.{IsConjugated}
use Rattle.stab_items.specs.Steps.{Step}
use Rattle.stab_run.specs.Records.{ones}
use Rattle.stab_run.specs.Points.{Point, outputs}
use Rattle.stab_frames.specs.RunPivots.{same_coins}
use Rattle.stab_frames.specs.PivotsOfSteps.{AreEnough}
use Rattle.stab_frames.specs.Pivots.{AreTrue, pivot_at}
use Rattle.stab_frames.specs.Propagations.{PropagationState, frame_at, IsGone, PropagatesOver}
use Rattle.stab_recording.specs.declared.checkpoint.Checkpoint.{Checkpoint}

-- a propagation over steps finds enough pivots for every run that these strings and this randomness are of
abbrev pub AreEnoughBy : ℕ → (ℕ → Option (List Letter)) → List Bool → List Step → ℕ → PropagationState → Type 0
AreEnoughBy n strings free left steps w =
    (coins : ℕ → Bool) (a : Point) (base : ℕ) → a.coin ≡ w.coin → AreTrue n coins strings left a → (outputs n coins left a).free ≡ drop w.coin free
    → AreEnough n coins (same_coins strings) (take steps left) (frame_at base w) a

-- checkpoints are in order, from one step on and up to another
abbrev pub AreInOrder : (from end : ℕ) → List Checkpoint → Type 0
AreInOrder from end [] = from ≤ end
AreInOrder from end (c ∷ more) = (from ≤ c.step) × AreInOrder c.step end more

-- a state is that of a checkpoint, conjugated by the letters that a frame has after this many of some steps
pub record IsPropagatedAfter (n : ℕ) (strings : List (List Letter)) (free : List Bool) (back : List Step) (steps : ℕ) (old : PropagationState) (c t : TableauState) : Type 0 where
  pub propagation : PropagationState
  pub propagated : PropagatesOver n (pivot_at strings free) (take steps back) old propagation
  pub qubits : t.qubits ≡ c.qubits
  pub conjugated : IsConjugated n propagation.letters (stabilises c) (stabilises t)

-- of the checkpoints those that the frame came to within its steps were conjugated, one after another; before the others it had passed all
-- that it passed
abbrev pub ArePropagatedCheckpoints : (n : ℕ) (strings : List (List Letter)) (free : List Bool) (back : List Step) (from steps : ℕ) → PropagationState → List Checkpoint → List TableauState → Type 0
ArePropagatedCheckpoints n strings free back from steps old checkpoints [] = All (λ c. steps ≤ c.step - from) checkpoints
ArePropagatedCheckpoints n strings free back from steps old [] (t ∷ conjugated) = ⊥
ArePropagatedCheckpoints n strings free back from steps old (c ∷ checkpoints) (t ∷ conjugated) =
    (c.step - from ≤ steps) × IsPropagatedAfter n strings free back (c.step - from) old c.tableau t × ArePropagatedCheckpoints n strings free back from steps old checkpoints conjugated

-- with one of two signs letters stabilise a state
abbrev pub Stabilise : List Letter → TableauState → Type 0
Stabilise letters t = (sign : Bool) × (stabilises t (record { negative = sign; letters = letters }) ≡ true)

-- the letters of a frame stabilise a checkpoint, so they flip no sign of it; the frame goes on without letters, and is gone for steps that look
-- back no further than the lookback window
pub record IsDropped (n : ℕ) (window : ℕ) (c : Checkpoint) (last new : PropagationState) : Type 0 where
  pub stabilise : Stabilise last.letters c.tableau
  pub left : new ≡ record last { letters = replicate n I }
  pub gone : (base : ℕ) → IsGone n window (frame_at base new)

-- letters flip the sign of some stabiliser of a state, which is then none
abbrev pub FramesSome : List Letter → TableauState → Type 0
FramesSome letters t =
    (p : Signed) × (length p.letters ≡ t.qubits) × (stabilises t p ≡ true) × (stabilises t (minus p) ≡ false) × (strings_anticommute letters p.letters ≡ true)

-- how a frame ends that passed this many steps: it passed all, past all checkpoints, or is gone, or it is dropped at the first checkpoint that
-- was not conjugated
pub data Ending (n : ℕ) (window : ℕ) (back : List Step) (from steps : ℕ) (stored : List Checkpoint) (conjugated : List TableauState) (last new : PropagationState) : Type 0 where
  over : steps ≡ length back → length conjugated ≡ length stored → new ≡ last → Ending n window back from steps stored conjugated last new
  gone : ((base : ℕ) → IsGone n window (frame_at base new)) → new ≡ last → Ending n window back from steps stored conjugated last new
  dropped : (c : Checkpoint) → slice_get stored (length conjugated) ≡ Some c → c.step - from ≡ steps → IsDropped n window c last new
      → Ending n window back from steps stored conjugated last new

-- some stabiliser of the last of the checkpoints that were conjugated is none of what was made of it
abbrev pub IsLastDiffering : (n : ℕ) → List Checkpoint → List TableauState → Type 0
IsLastDiffering n checkpoints [] = ⊥
IsLastDiffering n [] (t ∷ conjugated) = ⊥
IsLastDiffering n (c ∷ checkpoints) (t ∷ []) = (p : Signed) × (length p.letters ≡ n) × (stabilises c.tableau p ≡ true) × (stabilises t p ≡ false)
IsLastDiffering n (c ∷ checkpoints) (t ∷ u ∷ conjugated) = IsLastDiffering n checkpoints (u ∷ conjugated)

-- a frame was propagated over this many steps and ended there; its pivots were enough; the checkpoints on its way were conjugated, and if there are any, it
-- flips a record, or flips the sign of a stabiliser of the last of them
pub record IsRestFrame (n : ℕ) (strings : List (List Letter)) (free : List Bool) (window : ℕ) (back : List Step) (from : ℕ) (stored : List Checkpoint)
    (conjugated : List TableauState) (old new : PropagationState) : Type 0 where
  pub steps : ℕ
  pub within : steps ≤ length back
  pub last : PropagationState
  pub propagated : PropagatesOver n (pivot_at strings free) (take steps back) old last
  pub enough : AreEnoughBy n (pivot_at strings free) free back steps old
  pub ends : Ending n window back from steps stored conjugated last new
  pub checkpoints : ArePropagatedCheckpoints n strings free back from steps old stored conjugated
  pub differs : 1 ≤ length conjugated → (1 ≤ ones new.flips.records) ⊎ IsLastDiffering n stored conjugated

-- the first of some checkpoints, with other states
abbrev pub with_states : List TableauState → List Checkpoint → List Checkpoint
with_states [] checkpoints = checkpoints
with_states (t ∷ conjugated) [] = []
with_states (t ∷ conjugated) (c ∷ checkpoints) = record c { tableau = t } ∷ with_states conjugated checkpoints

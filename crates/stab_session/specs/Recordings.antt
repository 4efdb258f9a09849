-- Recordings: a run that is stored with checkpoints of its state, and another one whose steps differ from its within a span.
-- Source: this project's own.
use Rattle.std.specs.Prelude.{◌≡◌, ℕ, ◌+◌, ◌≤◌, Bool, false, List, All, Option, IfSome, length, take, drop, replicate}
use Rattle.stab_items.specs.Steps.{Step, most_steps}
use Rattle.stab_session.specs.declared.recording.Recording.{Recording}
use Rattle.stab_items.specs.declared.edit.Span.{Span}
use Rattle.stab_run.specs.Spans.{IsSpan}
use Rattle.stab_run.specs.Points.{origin, point_after, with_additions}
use Rattle.stab_run.specs.Laws.{AgreeAt}
use Rattle.stab_session.specs.Counts.{AgreeAsFarAsLooked}
use Rattle.stab_run.specs.ProgramStates.{StepFits, program_state, output_of}
use Rattle.stab_frames.specs.Limits.{most_strings}
use Rattle.stab_recording.specs.Spacing.{IsSpaced}
use Rattle.stab_recording.specs.Checkpoints.{IsRunFromStart, IsCheckpoint, checkpoint_steps}
use Rattle.stab_recording.specs.PivotLists.{KeepsPivotList}
use Rattle.stab_session.specs.PauliSpans.{DifferByPaulis}
use Rattle.stab_session.specs.declared.past_sites.PauliChange.{PauliChange}

-- what is stored is the run of these steps, which fit on the qubits, with this many observables, strings up to the limit, and checkpoints at most
-- K steps from each other
pub record IsRecording (n : ℕ) (coins : ℕ → Bool) (K : ℕ) (xs : List Step) (count : ℕ) (r : Recording) : Type 0 where
  pub qubits : r.tableau.qubits ≡ n
  pub run : IsRunFromStart n coins xs (program_state r.tableau (output_of r.outputs))
  pub observables : r.observables.items ≡ with_additions r.outputs.additions.items (replicate count false)
  pub fits : All (StepFits n) xs
  pub few : length xs ≤ most_steps
  pub has_pivots : KeepsPivotList n coins xs r.strings r.outputs.free.items r.window
  pub few_strings : r.strings.most ≤ most_strings n
  pub checkpoints : All (IsCheckpoint n coins xs) r.checkpoints.items
  pub spaced : IsSpaced K (length xs) (checkpoint_steps r.checkpoints.items)

-- contracts see the same of both
pub record IsSameRecording (a b : Recording) : Type 0 where
  pub tableau : a.tableau ≡ b.tableau
  pub output : output_of a.outputs ≡ output_of b.outputs
  pub observables : a.observables.items ≡ b.observables.items
  pub strings : a.strings ≡ b.strings
  pub window : a.window ≡ b.window
  pub checkpoints : a.checkpoints.items ≡ b.checkpoints.items

-- what is stored is the run of other steps, from which these differ within the span; if a change is given, by Pauli gates alone, as it says
pub record Follows (n : ℕ) (coins : ℕ → Bool) (K : ℕ) (ys : List Step) (s : Span) (paulis : Option PauliChange) (r : Recording) : Type 0 where
  pub old : List Step
  pub count : ℕ
  pub preserved : IsRecording n coins K old count r
  pub span : IsSpan old ys s
  pub differ : IfSome paulis (λ p. DifferByPaulis n old ys s p.string.letters p.old p.new p.gaps.items)

-- this many steps after what was changed both runs have the same group, number of the next coin and records
abbrev pub AgreeAfterSpan : ℕ → (ℕ → Bool) → List Step → List Step → Span → ℕ → Type 0
AgreeAfterSpan n coins xs ys s far =
    AgreeAt n (point_after n coins (take (s.old_end + far) xs) origin) (point_after n coins (take (s.new_end + far) ys) origin)

-- and so they have the same records as far back as the steps after look, if these differ before that, and another number of the
-- next coin at most if none decides any more
abbrev pub AgreeBackAfterSpan : ℕ → (ℕ → Bool) → List Step → List Step → Span → ℕ → Type 0
AgreeBackAfterSpan n coins xs ys s far =
    AgreeAsFarAsLooked n coins (drop (s.new_end + far) ys) (point_after n coins (take (s.old_end + far) xs) origin) (point_after n coins (take (s.new_end + far) ys) origin)

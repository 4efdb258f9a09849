-- Followed edits: what a recording is once an edit was followed, and what that took.
-- Source: this project's own.
use Rattle.std.specs.Prelude.{ℕ, ◌+◌, ◌-◌, ◌*◌, ◌≤◌, Bool, List, All, length}
use Rattle.stab_items.specs.Steps.{Step, HasDistinctQubits}
use Rattle.stab_items.specs.declared.edit.Span.{Span}
use Rattle.stab_run.specs.Spans.{IsSpan}
use Rattle.stab_run.specs.Records.{ones}
use Rattle.stab_run.specs.Points.{all_coins_of}
use Rattle.stab_recording.specs.Checkpoints.{checkpoint_steps}
use Rattle.stab_session.specs.declared.recording.Recording.{Recording}
use Rattle.stab_session.specs.declared.recording.Followed.{Followed}
use Rattle.stab_session.specs.Counts.{IsCounted}
use Rattle.stab_session.specs.Recordings.{IsRecording, AgreeAfterSpan, AgreeBackAfterSpan}

-- an edit that changed steps within a span went past this many steps, carried out or not: from the last old checkpoint before the span to
-- where the old run is the new one again, or to the end
pub record IsWay (n : ℕ) (coins : ℕ → Bool) (K : ℕ) (ys : List Step) (s : Span) (old : Recording) (passed : ℕ) : Type 0 where
  pub most : passed ≤ (length ys - s.first) + K
  pub few : (xs : List Step) (count far : ℕ) → IsRecording n coins K xs count old → IsSpan xs ys s → AgreeAfterSpan n coins xs ys s far
      → passed ≤ ((s.new_end - s.first) + 2 * K) + far
  pub counted : (xs : List Step) (count : ℕ) → IsRecording n coins K xs count old → IsSpan xs ys s
      → IsCounted (AgreeAfterSpan n coins xs ys s) (AgreeBackAfterSpan n coins xs ys s) (checkpoint_steps old.checkpoints.items) s.first s.old_end s.new_end (length ys) passed

-- an edit was followed: what is stored is the run of the new steps, with this many observables, and these are the steps that it took and, before
-- and after it, the numbers of coins asked for
pub record HasFollowed (n : ℕ) (coins : ℕ → Bool) (K : ℕ) (ys : List Step) (observables : ℕ) (s : Span) (before after : ℕ) (old : Recording) (f : Followed) (new : Recording) : Type 0 where
  pub preserved : IsRecording n coins K ys observables new
  pub distinct : All HasDistinctQubits ys
  pub way : IsWay n coins K ys s old (f.applied + f.by_frame)
  pub tried : f.tried ≤ 3 * (length ys - s.first)
  pub asks : after ≤ before + f.applied
  pub asks_random : after ≤ before + ones new.outputs.free.items

-- even if memory was refused, no more coins were asked for than the new steps use up, nor than there are steps from the first changed one on,
-- and K more
pub record AsksWithin (K : ℕ) (ys : List Step) (first before after : ℕ) : Type 0 where
  pub all : after ≤ before + all_coins_of ys
  pub near : after ≤ before + ((length ys - first) + K)

-- Shots: what a run of all steps gives.
-- Source: this project's own.
use Rattle.std.specs.Prelude.{◌≡◌}
use Rattle.stab_recording.specs.declared.whole_run.Shot.{Shot}
use Rattle.stab_run.specs.Runs.{State}

-- the lists are those of a run that ended in a state
pub record IsShotOf (s : State) (shot : Shot) : Type 0 where
  pub records : shot.records.items ≡ s.records
  pub free : shot.free.items ≡ s.free
  pub detectors : shot.detectors.items ≡ s.detectors
  pub observables : shot.observables.items ≡ s.observables

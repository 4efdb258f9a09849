use Rattle.stab_run.proofs.Names.{refl, sym, ◌∙◌, ap, measured, steps_shown}
use Rattle.stab_run.proofs.SameLemmas.{same_shown, same_measurement, determines_targets}
use Rattle.stab_run.proofs.same.are_measurements.Goals as goal

pub returns-then-same_measurement : goal.returns-then-same_measurement
returns-then-same_measurement c = record {
  same = same_shown _ (determines_targets _ (λ a b. refl)) measured c.args.measurement c.in-Measurements.other c.args.targets.now c.in-Measurements.others.now c.args.steps c.eq-same_list.result
      (ap steps_shown c.in-Measurements.is) (same_measurement c.args.measurement c.in-Measurements.other (sym c.eq-same_measurement.ensures ∙ c.if-same_measurement.true)) c.eq-same_list.ensures;
}

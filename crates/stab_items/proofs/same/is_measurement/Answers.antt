use Rattle.stab_items.proofs.Names.{refl, sym, ◌∙◌, ap, map, measured, steps_of}
use Rattle.stab_items.proofs.SameLemmas.{same_mapped, same_measurement, determines_targets}
use Rattle.stab_items.proofs.same.is_measurement.Goals as goal

pub returns-then-same_measurement : goal.returns-then-same_measurement
returns-then-same_measurement c = record {
  same = same_mapped _ (determines_targets _ (λ a b. refl)) measured c.args.measurement c.in-Measure.other c.args.targets.now c.as_slice.result.now (steps_of c.args.kind.now) c.eq-same_list.result
      (ap steps_of c.in-Measure.is ∙ ap (map (measured c.in-Measure.other)) (sym c.as_slice.ensures.value))
      (same_measurement c.args.measurement c.in-Measure.other (sym c.eq-same_measurement.ensures ∙ c.if-same_measurement.true)) c.eq-same_list.ensures;
}

use Rattle.stab_session.proofs.Names.{sym, ap, ◌∙◌, ⊎_elim, steps_shown, lookbacks_of, outputs, lengths_of, longer}
use Rattle.stab_session.proofs.LengthLemmas.{longer-gates, longer-pairs, longer-measured, longer-detected}
use Rattle.stab_session.proofs.counting.lengths_with.Goals as goal

pub returns-in-Gates : goal.returns-in-Gates
returns-in-Gates c = record {
  value = λ n coins a.
      ⊎_elim
      (λ gates.
      longer-gates n coins gates.0 gates.1.now a c.args.before
      ∙ ap (λ steps. longer c.args.before (lengths_of (outputs n coins (steps_shown steps) a))) (sym gates.2))
      (λ pairs.
      longer-pairs n coins pairs.0 pairs.1.now a c.args.before
      ∙ ap (λ steps. longer c.args.before (lengths_of (outputs n coins (steps_shown steps) a))) (sym pairs.2))
      c.in-Gates.is;
}

pub returns-in-Measurements : goal.returns-in-Measurements
returns-in-Measurements c = record {
  value = λ n coins a.
      longer-measured n coins c.in-Measurements.field-0 c.in-Measurements.targets.now a c.args.before
      ∙ ap (λ steps. longer c.args.before (lengths_of (outputs n coins (steps_shown steps) a))) (sym c.in-Measurements.is);
}

pub returns-in-Detectors : goal.returns-in-Detectors
returns-in-Detectors c = record {
  value = λ n coins a.
      longer-detected n coins (lookbacks_of c.in-Detectors.detectors) a c.args.before c.len.result c.len.ensures.value
      ∙ ap (λ steps. longer c.args.before (lengths_of (outputs n coins (steps_shown steps) a))) (sym c.in-Detectors.is);
}

use Rattle.stab_sampler.proofs.Names.{ap, sym, subst, OnOk, steps_shown, GoOver}
use Rattle.stab_sampler.proofs.GoLemmas.{go-as}
use Rattle.stab_sampler.proofs.steps.propagate_instruction.Goals as goal

pub returns-in-Gates-clause-goes : goal.returns-in-Gates-clause-goes
returns-in-Gates-clause-goes g c =
    go-as _ _ _ _ (ap steps_shown c.in-Gates.is) (c.propagate_gates.ensures.goes c.args.recorded_pivots (g.D.Draw.sequences c.args.draw.now) c.requires.may)

pub returns-in-Pairs-clause-goes : goal.returns-in-Pairs-clause-goes
returns-in-Pairs-clause-goes g c =
    go-as _ _ _ _ (ap steps_shown c.in-Pairs.is) (c.propagate_pairs.ensures.goes c.args.recorded_pivots (g.D.Draw.sequences c.args.draw.now) c.requires.may)

pub returns-in-Measurements-clause-goes : goal.returns-in-Measurements-clause-goes
returns-in-Measurements-clause-goes g c =
    subst (λ xs. OnOk c.propagate_targets.result
    (GoOver g.W.Word.at g.W.Word.lanes c.args.recorded_pivots (g.D.Draw.sequences c.args.draw.now) xs c.args.lanes.now c.propagate_targets.new.lanes))
    (sym (ap steps_shown c.in-Measurements.is)) c.propagate_targets.ensures.goes

pub returns-in_ok-propagate_detectors-in-Detectors-clause-goes : goal.returns-in_ok-propagate_detectors-in-Detectors-clause-goes
returns-in_ok-propagate_detectors-in-Detectors-clause-goes g c =
    go-as _ _ _ _ (ap steps_shown c.in-Detectors.is)
    ((c.in_ok-propagate_detectors-in-Detectors.ensures {u = tt}).goes c.args.recorded_pivots (g.D.Draw.sequences c.args.draw.now) c.requires.may)

pub returns-in-Single-clause-goes : goal.returns-in-Single-clause-goes
returns-in-Single-clause-goes g c =
    subst (λ xs. OnOk c.propagate_step.result
    (GoOver g.W.Word.at g.W.Word.lanes c.args.recorded_pivots (g.D.Draw.sequences c.args.draw.now) xs c.args.lanes.now c.propagate_step.new.lanes))
    (sym (ap steps_shown c.in-Single.is)) c.propagate_step.ensures.goes

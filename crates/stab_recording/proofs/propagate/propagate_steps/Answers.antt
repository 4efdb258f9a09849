use Rattle.stab_recording.proofs.Names.{length, take, IfOk-weaker, propagation-same, propagation-enough}
use Rattle.stab_recording.proofs.propagate.propagate_steps.Goals as goal

pub returns-clause-propagated : goal.returns-clause-propagated
returns-clause-propagated c =
    IfOk-weaker c.propagate.result _ _
    (λ w. propagation-same (length c.args.propagation.now.letters) c.args.strings.now.strings c.args.free.now (take w.steps c.args.cursor.now.left) c.args.propagation.now c.propagate.new.propagation)
    c.propagate.ensures.goes

pub returns-clause-enough : goal.returns-clause-enough
returns-clause-enough c =
    IfOk-weaker c.propagate.result _ _
    (λ w goes coins a base. propagation-enough (length c.args.propagation.now.letters) coins c.args.strings.now.strings c.args.free.now w.steps base c.args.cursor.now.left
    c.args.propagation.now c.propagate.new.propagation a goes)
    c.propagate.ensures.goes

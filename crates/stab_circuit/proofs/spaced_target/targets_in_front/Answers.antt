use Rattle.stab_circuit.proofs.Names.{[], ◌∷◌}
use Rattle.stab_circuit.proofs.SpacedTargetLemmas.{target_more}
use Rattle.stab_circuit.proofs.spaced_target.targets_in_front.Goals as goal

pub loop-target-preserved : goal.loop-target-preserved
loop-target-preserved g c =
    target_more g.T.SpacedTarget.meaning c.args.bytes.now c.loop-target.rest.now c.in-Some.after.now c.loop-target.found.items (c.in-Some.target ∷ []) c.push.new.self.items
    c.loop-target.invariant c.in-Some.ensures.value c.in_ok-push.ensures.items

use Rattle.stab_circuit.proofs.Names.{◌∙◌, words}
use Rattle.stab_circuit.proofs.ControlLemmas.{pairs_next}
use Rattle.stab_circuit.proofs.control.controlled_pairs.Goals as goal

pub loop-pair-preserved : goal.loop-pair-preserved
loop-pair-preserved c =
    pairs_next c.loop-pair.found.items c.push.new.self.items c.in-Some.pair (words c.loop-pair.rest.now) (words c.in-Some.after.now) c.in_ok-push.ensures.items c.in-Some.ensures.value
    ∙ c.loop-pair.invariant

use Rattle.stab_circuit.proofs.Names.{◌∙◌, words}
use Rattle.stab_circuit.proofs.ControlLemmas.{turns_next}
use Rattle.stab_circuit.proofs.control.control_targets.Goals as goal

pub loop-word-preserved : goal.loop-word-preserved
loop-word-preserved c =
    turns_next c.loop-word.found.items c.push.new.self.items (words c.loop-word.rest.now) (words c.in-Some.after.now) c.in-Some.word.now c.in-Some-first_word.word.now (words c.in-Some-first_word.after.now)
    c.in_ok-control.control c.in_ok-qubit.qubit c.in-Some.ensures.value c.in-Some-first_word.ensures.value c.in_ok-control.ensures.value c.in_ok-qubit.ensures.value c.in_ok-push.ensures.items
    ∙ c.loop-word.invariant

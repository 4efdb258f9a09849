use Rattle.stab_script.proofs.Names.{inr}
use Rattle.stab_script.proofs.WordLemmas.{past_steps}
use Rattle.stab_script.proofs.words.steps_written.Goals as goal

pub returns-in-Some-2 : goal.returns-in-Some-2
returns-in-Some-2 c = record {
  gives = inr (past_steps c.args.circuit.now c.steps.result c.in-Some.asked c.args.number c.requires.checked c.steps.ensures.value c.if-asked-steps.false c.in-Some.is);
}

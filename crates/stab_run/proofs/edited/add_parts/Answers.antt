use Rattle.stab_run.proofs.Names.{arith, few_steps, circuit_items}
use Rattle.stab_run.proofs.edited.add_parts.Goals as goal

pub rest_of-requires-clause-few_new : goal.rest_of-requires-clause-few_new
rest_of-requires-clause-few_new c = omega (arith, c.requires.old.2.1.new_within, few_steps (circuit_items c.args.circuit.now) c.requires.checked)

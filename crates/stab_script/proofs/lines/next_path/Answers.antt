use Rattle.stab_script.proofs.Names.{circuit_items}
use Rattle.stab_script.proofs.LineLemmas.{path_past}
use Rattle.stab_script.proofs.lines.next_path.Goals as goal

pub returns-else-step-steps-clause-value : goal.returns-else-step-steps-clause-value
returns-else-step-steps-clause-value c = path_past (circuit_items c.args.circuit.now) c.steps.result c.args.step c.new.result c.requires.checked c.steps.ensures.value c.if-step-steps.false c.new.ensures.value

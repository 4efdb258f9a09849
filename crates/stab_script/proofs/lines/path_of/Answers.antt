use Rattle.stab_script.proofs.Names.{circuit_items}
use Rattle.stab_script.proofs.LineLemmas.{path_past}
use Rattle.stab_script.proofs.lines.path_of.Goals as goal

pub returns-else-step-steps : goal.returns-else-step-steps
returns-else-step-steps c = record {
  value = path_past (circuit_items c.args.circuit.now) c.steps.result c.args.step c.new.result c.requires.checked c.steps.ensures.value c.if-step-steps.false c.new.ensures.value;
}

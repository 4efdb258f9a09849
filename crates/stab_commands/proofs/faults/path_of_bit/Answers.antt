use Rattle.stab_commands.proofs.Names.{◌∙◌, sym, ap, circuit_items, path_at}
use Rattle.stab_report.proofs.SingleErrorTextLaws.{path_here}
use Rattle.stab_commands.proofs.faults.path_of_bit.Goals as goal

pub returns-clause-value : goal.returns-clause-value
returns-clause-value c =
    let item = c.item_of_step in
    ap (path_at (circuit_items c.args.circuit.now)) (sym c.in_ok-step.ensures.value)
    ∙ path_here (circuit_items c.args.circuit.now) c.in_ok-step.step item.result.steps item.result.path item.ensures.some item.ensures.path

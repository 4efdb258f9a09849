use Rattle.stab_commands.proofs.Names.{circuit_items, qubits_of}
use Rattle.stab_report.proofs.ErrorLineLaws.{rows_counted}
use Rattle.stab_commands.proofs.searched.send_errors.Goals as goal

pub write_all_errors-requires-clause-rows : goal.write_all_errors-requires-clause-rows
write_all_errors-requires-clause-rows g c =
    let items = circuit_items c.args.circuit.now in
    rows_counted (qubits_of items) items c.args.errors.now c.requires.table

use Rattle.stab_commands.proofs.Names.{◌≡◌, ◌∙◌, ◌<◌, All, length, sym, ap, subst, qubits_of, circuit_items, bits_in}
use Rattle.stab_report.proofs.SingleErrorBitLaws.{table_below}
use Rattle.stab_commands.proofs.faults.send_shots.Goals as goal

pub write_shots-requires-clause-in_range : goal.write_shots-requires-clause-in_range
write_shots-requires-clause-in_range g c =
    let items = circuit_items c.args.circuit.now in
    let table = c.args.table.now in
    let count : length c.as_mut_slice.result.now ≡ bits_in items = c.as_mut_slice.ensures.len ∙ c.in_ok-bits.ensures.len ∙ ap length c.deterministic.ensures.value ∙ c.requires.table.are_deterministic.count in
    subst (λ m. All (All (λ j. j < m)) table.rows) (sym count) (table_below (qubits_of items) c.args.everywhere items table.deterministic table.rows c.requires.table)

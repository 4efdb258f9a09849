use Rattle.stab_commands.proofs.Names.{◌≡◌, ◌<◌, ℕ, false, IfNone, refl, subst, Err, err_from_is_err_and, circuit_items, qubits_of, IsSingleErrorTable, RowsAdd, IsDeterministic, bits_in, IsTableText, table_text}
use Rattle.stab_commands.proofs.FoundLaws.{found_at_once}
use Rattle.stab_commands.proofs.faults.send_faults.Goals as goal

-- the text of the table was not sent whole
pub returns-in_err-send_table-in-Ok-None : goal.returns-in_err-send_table-in-Ok-None
returns-in_err-send_table-in-Ok-None g c =
    let items = circuit_items c.args.circuit.now in
    let table = c.in_ok-table.table in
    let text = table_text c.args.layout c.args.everywhere items table.rows in
    let is : IsTableText c.args.layout c.args.everywhere c.args.deterministic_only items text = record {
      deterministic = table.deterministic;
      rows = table.rows;
      table = subst (λ n. IsSingleErrorTable n c.args.everywhere items table.deterministic table.rows) c.qubits.ensures.value c.in_ok-table.ensures.table;
      adds = subst (λ n. RowsAdd n c.args.everywhere items table.rows) c.qubits.ensures.value c.in_ok-table.ensures.adds;
      all_deterministic =
          subst (λ o. IfNone o (c.args.deterministic_only ≡ false → (i : ℕ) → i < bits_in items → IsDeterministic (qubits_of items) items i)) c.in-Ok-None.field-0-is c.in-Ok-None.ensures.none;
      text = refl;
    } in
    let sent = found_at_once {T = Unit {0}} (IsTableText c.args.layout c.args.everywhere c.args.deterministic_only items) (g.O.Output.seen c.args.out.now) (g.O.Output.seen c.send_table.new.out) text
    (Err c.in_err-send_table-in-Ok-None.field-0.0) is c.in_err-send_table-in-Ok-None.ensures.sends in
    let reported = err_from_is_err_and c.from_residual-in_err-send_table-in-Ok-None.result c.from_residual-in_err-send_table-in-Ok-None.ensures.1 in
    record { goes_on = rw (reported.1, reported.2) sent }

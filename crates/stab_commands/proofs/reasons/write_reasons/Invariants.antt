use Rattle.stab_commands.proofs.Names.{Took, qubits_of, circuit_items, table_of, reason_text, texts_from}
use Rattle.stab_commands.proofs.reasons.write_reasons.Given as goal

abbrev pub invariant-loop-number : goal.invariant-loop-number
invariant-loop-number g l =
    let items = circuit_items l.circuit in
    Took (g.O.Output.seen l.initial.out) (g.O.Output.seen l.out) (texts_from (reason_text items (table_of (qubits_of items) items)) 0 l.number)

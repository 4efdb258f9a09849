use Rattle.stab_commands.proofs.Names.{◌<◌, ◌∙◌, All, ap, sym, subst, length, arith, Took, took_none, qubits_of, circuit_items, SendsUnflushed, bit_of, decides}
use Rattle.stab_items.proofs.CountLemmas.{detectors_counted}
use Rattle.stab_report.proofs.SingleErrorBitLaws.{below}
use Rattle.stab_commands.proofs.ReasonLaws.{is_random, no_positions, reason_found, reason_none, some_positions}
use Rattle.stab_report.proofs.SendingLaws.{sends_written}
use Rattle.stab_report.proofs.RandomLaws.{random_within}
use Rattle.stab_commands.proofs.reasons.write_reason.Goals as goal

pub returns-then-is_empty : goal.returns-then-is_empty
returns-then-is_empty g c =
    let items = circuit_items c.args.circuit.now in
    let seen = g.O.Output.seen c.args.out.now in
    let none = no_positions c.args.positions.now c.if-is_empty.ensures in
    record { sends = subst (Took seen seen) (sym (reason_none items c.args.runs.now c.requires.runs c.args.number c.args.positions.now c.requires.are none)) (took_none seen) }

pub path_of_bit-requires-clause-in_range : goal.path_of_bit-requires-clause-in_range
path_of_bit-requires-clause-in_range g c =
    let items = circuit_items c.args.circuit.now in
    let some = some_positions c.args.positions.now c.if-is_empty.ensures in
    let is = c.bit_of-bit.ensures.value ∙ ap (λ d. bit_of d c.args.number) (c.detectors.ensures.value ∙ detectors_counted items c.requires.checked) in
    random_within (qubits_of items) items c.args.number c.bit_of-bit.result is (is_random items c.args.runs.now c.requires.runs c.args.number c.args.positions.now c.requires.are some)

pub send_line-requires-clause-in_range : goal.send_line-requires-clause-in_range
send_line-requires-clause-in_range g c =
    let items = circuit_items c.args.circuit.now in
    let count = length c.args.runs.now.numbers.items in
    subst (All (λ k. k < count)) c.requires.are (below (decides items c.args.number) 0 count count (omega arith))

pub returns-in-Ok : goal.returns-in-Ok
returns-in-Ok g c =
    let items = circuit_items c.args.circuit.now in
    let seen = g.O.Output.seen c.args.out.now in
    let then_seen = g.O.Output.seen c.send_line.new.out in
    let some = some_positions c.args.positions.now c.if-is_empty.ensures in
    let is = c.bit_of-bit.ensures.value ∙ ap (λ d. bit_of d c.args.number) (c.detectors.ensures.value ∙ detectors_counted items c.requires.checked) in
    record {
      sends = subst (λ l. SendsUnflushed l seen then_seen c.send_line.result)
          (reason_found items c.args.runs.now c.requires.runs c.args.number c.args.positions.now c.requires.are c.bit_of-bit.result is c.in-Ok.path c.in-Ok.ensures.value some)
          (sends_written _ seen then_seen c.send_line.result c.send_line.ensures.writes);
    }

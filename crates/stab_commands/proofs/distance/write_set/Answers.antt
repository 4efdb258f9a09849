use Rattle.stab_commands.proofs.Names.{length, flat_map, failed_on, failed_within, qubits_of, circuit_items, distance_line, numbered_line}
use Rattle.stab_report.specs.Distances.{set_text}
use Rattle.stab_report.proofs.ErrorLineLaws.{rows_counted}
use Rattle.stab_report.proofs.WritingLaws.{writes_after}
use Rattle.stab_commands.proofs.distance.write_set.Goals as goal

pub returns-in_err-write_count : goal.returns-in_err-write_count
returns-in_err-write_count g c =
    let options = c.args.options in
    let items = circuit_items c.args.circuit.now in
    let errors = c.args.errors.now in
    let numbers = c.args.numbers.now in
    let old = g.O.Output.seen c.args.out.now in
    let new = g.O.Output.seen c.write_count.new.out in
    let line = distance_line (length numbers) options.graphlike options.everywhere options.observable in record {
      writes = failed_on old new (set_text options items errors numbers) c.in_err-write_count.field-0.0 c.from_residual.result c.from_residual.ensures.1
          c.in_err-write_count.ensures.writes.0
          (failed_within line (flat_map (numbered_line items errors) numbers) c.in_err-write_count.ensures.writes.1);
    }

pub write_errors-requires-clause-rows : goal.write_errors-requires-clause-rows
write_errors-requires-clause-rows g c =
    let items = circuit_items c.args.circuit.now in
    rows_counted (qubits_of items) items c.args.errors.now c.requires.table

pub returns : goal.returns
returns g c =
    let options = c.args.options in
    let line = distance_line (length c.args.numbers.now) options.graphlike options.everywhere options.observable in record {
      writes = writes_after (g.O.Output.seen c.write_errors.new.out) line (flat_map (numbered_line (circuit_items c.args.circuit.now) c.args.errors.now) c.args.numbers.now) c.write_errors.result c.in_ok-write_count.ensures.writes c.write_errors.ensures.writes;
    }

use Rattle.stab_report.proofs.Names.{drop, flat_map, wrote_part, wrote_and_failed, failed_on, circuit_items, numbered_line}
use Rattle.stab_report.proofs.FaultLineLaws.{flat-drop}
use Rattle.stab_report.proofs.error_lines.write_errors.Goals as goal

pub numbers-preserved : goal.numbers-preserved
numbers-preserved g c =
    let line = numbered_line (circuit_items c.args.circuit.now) c.args.errors.now in
    let all = flat_map line c.args.numbers.now in
    let left = flat_map line (drop c.numbers.number-index c.args.numbers.now) in
    wrote_part all left _ _ (flat-drop line c.args.numbers.now c.numbers.number-index _ c.numbers-test.true) c.numbers.invariant c.in_ok-write_error.ensures.writes

pub returns-in_err-write_error : goal.returns-in_err-write_error
returns-in_err-write_error g c =
    let line = numbered_line (circuit_items c.args.circuit.now) c.args.errors.now in
    let all = flat_map line c.args.numbers.now in
    let left = flat_map line (drop c.numbers.number-index c.args.numbers.now) in record {
      writes = failed_on (g.O.Output.seen c.args.out.now) (g.O.Output.seen c.write_error.new.out) all c.in_err-write_error.field-0.0 c.from_residual.result c.from_residual.ensures.1
          c.in_err-write_error.ensures.writes.0
          (wrote_and_failed all left _ _ (flat-drop line c.args.numbers.now c.numbers.number-index _ c.numbers-test.true) c.numbers.invariant c.in_err-write_error.ensures.writes.1);
    }

use Rattle.stab_report.proofs.Names.{◌+◌, ◌-◌, length, flat_map, range_with_len, arith, wrote_part, wrote_and_failed, failed_on, circuit_items, numbered_line, error_lines}
use Rattle.stab_report.proofs.ErrorLineLaws.{flat-range}
use Rattle.stab_report.proofs.error_lines.write_all_errors.Goals as goal

pub errors-preserved : goal.errors-preserved
errors-preserved g c =
    let items = circuit_items c.args.circuit.now in
    let line = numbered_line items c.args.errors.now in
    let k = c.errors.number in
    let n = length c.args.errors.now.errors in
    wrote_part (error_lines items c.args.errors.now) (flat_map line (range_with_len k (n - k))) _ (flat_map line (range_with_len (k + 1) (n - (k + 1)))) (flat-range line k n (omega (arith, c.errors-test.true, c.len-number-end.ensures.value))) c.errors.invariant c.in_ok-write_error.ensures.writes

pub returns-in_err-write_error : goal.returns-in_err-write_error
returns-in_err-write_error g c =
    let items = circuit_items c.args.circuit.now in
    let line = numbered_line items c.args.errors.now in
    let all = error_lines items c.args.errors.now in
    let k = c.errors.number in
    let n = length c.args.errors.now.errors in
    let split = flat-range line k n (omega (arith, c.errors-test.true, c.len-number-end.ensures.value)) in record {
      writes = failed_on (g.O.Output.seen c.args.out.now) (g.O.Output.seen c.write_error.new.out) all c.in_err-write_error.field-0.0 c.from_residual.result c.from_residual.ensures.1
          c.in_err-write_error.ensures.writes.0
          (wrote_and_failed all (flat_map line (range_with_len k (n - k))) _ (flat_map line (range_with_len (k + 1) (n - (k + 1)))) split c.errors.invariant c.in_err-write_error.ensures.writes.1);
    }

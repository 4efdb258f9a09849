use Rattle.stab_report.proofs.Names.{drop, flat_map, wrote_part, wrote_and_failed, failed_on, circuit_items}
use Rattle.stab_report.specs.DoubtLines.{doubt_line}
use Rattle.stab_report.proofs.FaultLineLaws.{flat-drop}
use Rattle.stab_report.proofs.doubt_lines.write_doubts.Goals as goal

pub marks-preserved : goal.marks-preserved
marks-preserved g c =
    let line = doubt_line (circuit_items c.args.circuit.now) in
    let all = flat_map line c.args.marks.now in
    let left = flat_map line (drop c.marks.mark-index c.args.marks.now) in
    wrote_part all left _ _ (flat-drop line c.args.marks.now c.marks.mark-index _ c.marks-test.true) c.marks.invariant c.in_ok-write_doubt.ensures.writes

pub returns-in_err-write_doubt : goal.returns-in_err-write_doubt
returns-in_err-write_doubt g c =
    let line = doubt_line (circuit_items c.args.circuit.now) in
    let all = flat_map line c.args.marks.now in
    let left = flat_map line (drop c.marks.mark-index c.args.marks.now) in record {
      writes = failed_on (g.O.Output.seen c.args.out.now) (g.O.Output.seen c.write_doubt.new.out) all c.in_err-write_doubt.field-0.0 c.from_residual.result c.from_residual.ensures.1
          c.in_err-write_doubt.ensures.writes.0
          (wrote_and_failed all left _ _ (flat-drop line c.args.marks.now c.marks.mark-index _ c.marks-test.true) c.marks.invariant c.in_err-write_doubt.ensures.writes.1);
    }

use Rattle.stab_commands.proofs.Names.{drop, wrote_part, wrote_and_failed, failed_on, line_of, lines_of}
use Rattle.stab_commands.proofs.RowLaws.{lines-drop}
use Rattle.stab_commands.proofs.stabilisers.write_rows.Goals as goal

pub loop-row-preserved : goal.loop-row-preserved
loop-row-preserved g c =
    let rows = c.args.rows.now in
    let at = c.loop-row.row-index in
    let here = lines-drop rows at c.row-item.result c.loop-row-test.true c.row-item.is in
    wrote_part (lines_of rows) (lines_of (drop at rows)) (line_of c.row-item.result) _ here c.loop-row.invariant c.in_ok-write_row.ensures.writes

pub returns-in_err-write_row : goal.returns-in_err-write_row
returns-in_err-write_row g c =
    let rows = c.args.rows.now in
    let at = c.loop-row.row-index in
    let here = lines-drop rows at c.row-item.result c.loop-row-test.true c.row-item.is in record {
      writes = failed_on (g.O.Output.seen c.args.out.now) (g.O.Output.seen c.write_row.new.out) (lines_of rows) c.in_err-write_row.field-0.0 c.from_residual.result c.from_residual.ensures.1
          c.in_err-write_row.ensures.writes.0
          (wrote_and_failed (lines_of rows) (lines_of (drop at rows)) (line_of c.row-item.result) _ here c.loop-row.invariant c.in_err-write_row.ensures.writes.1);
    }

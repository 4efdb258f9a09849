use Rattle.stab_report.proofs.Names.{ℕ, List, ◌∙◌, ◌+◌, ◌++◌, ◌<◌, ap, ap₂, sym, subst, [], true, drop, flat_map, wrote_part, wrote_and_failed, shot_bytes, set_all}
use Rattle.stab_report.proofs.FaultLineLaws.{flat-drop}
use Rattle.stab_report.proofs.WritingLaws.{failed_as_fault}
use Rattle.stab_report.proofs.single_error_bits.write_shots.Goals as goal

pub returns-in_err-write_row : goal.returns-in_err-write_row
returns-in_err-write_row g c =
    let rows = c.args.table.now.rows in
    let shot : List ℕ → List ℕ = λ row. shot_bytes c.args.format c.args.kinds (set_all row true c.args.bits.now) in
    let part = shot_bytes c.args.format c.args.kinds (set_all c.row.result.now true c.loop-single_error.bits) in
    let rest = flat_map shot (drop (c.loop-single_error.single_error + 1) rows) in
    let is = ap₂ (λ row bits. shot_bytes c.args.format c.args.kinds (set_all row true bits)) c.row.ensures.value c.loop-single_error.invariant.same in
    let here = flat-drop shot rows c.loop-single_error.single_error [] (subst (λ m. c.loop-single_error.single_error < m) c.len-single_error-end.ensures.value c.loop-single_error-test.true) ∙ ap (λ l. l ++ rest) (sym is) in record {
      writes = failed_as_fault (g.O.Output.seen c.args.out.now) (g.O.Output.seen c.write_row.new.out) (flat_map shot rows) c.in_err-write_row.field-0.0 c.from_residual.result c.from_residual.ensures.1
          c.in_err-write_row.ensures.writes.0
          (wrote_and_failed (flat_map shot rows) (flat_map shot (drop c.loop-single_error.single_error rows)) part rest here c.loop-single_error.invariant.wrote c.in_err-write_row.ensures.writes.1);
    }

pub loop-single_error-preserved : goal.loop-single_error-preserved
loop-single_error-preserved g c =
    let rows = c.args.table.now.rows in
    let shot : List ℕ → List ℕ = λ row. shot_bytes c.args.format c.args.kinds (set_all row true c.args.bits.now) in
    let part = shot_bytes c.args.format c.args.kinds (set_all c.row.result.now true c.loop-single_error.bits) in
    let rest = flat_map shot (drop (c.loop-single_error.single_error + 1) rows) in
    let is = ap₂ (λ row bits. shot_bytes c.args.format c.args.kinds (set_all row true bits)) c.row.ensures.value c.loop-single_error.invariant.same in
    let here = flat-drop shot rows c.loop-single_error.single_error [] (subst (λ m. c.loop-single_error.single_error < m) c.len-single_error-end.ensures.value c.loop-single_error-test.true) ∙ ap (λ l. l ++ rest) (sym is) in record {
      same = c.in_ok-write_row.ensures.same ∙ c.loop-single_error.invariant.same;
      wrote = wrote_part (flat_map shot rows) (flat_map shot (drop c.loop-single_error.single_error rows)) part rest here c.loop-single_error.invariant.wrote c.in_ok-write_row.ensures.writes;
    }

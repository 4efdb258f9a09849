use Rattle.stab_commands.proofs.Names.{◌∙◌, ◌++◌, subst, codes, decimal, Took, TookAndFailed, WritesAll, failed_on, failed_within, distance_line, line_end, of_errors}
use Rattle.stab_report.proofs.ErrorLineLaws.{joined-count}
use Rattle.stab_report.proofs.WritingLaws.{writes_after}
use Rattle.stab_commands.proofs.distance.write_count.Goals as goal

pub returns-in_err-write_texts : goal.returns-in_err-write_texts
returns-in_err-write_texts g c =
    let options = c.args.options in
    let old = g.O.Output.seen c.args.out.now in
    let new = g.O.Output.seen c.write_texts.new.out in
    let front = joined-count c.args.count c.as_bytes.result.now (c.as_bytes.ensures.value ∙ c.format.ensures.text) in
    let failed = subst (TookAndFailed old new) front c.in_err-write_texts.ensures.writes.1 in record {
      writes = failed_on old new (distance_line c.args.count options.graphlike options.everywhere options.observable) c.in_err-write_texts.field-0.0 c.from_residual.result c.from_residual.ensures.1
          c.in_err-write_texts.ensures.writes.0
          (failed_within (codes "distance " ++ decimal c.args.count) (line_end (of_errors options.graphlike options.everywhere) options.observable) failed);
    }

pub returns : goal.returns
returns g c =
    let options = c.args.options in
    let old = g.O.Output.seen c.args.out.now in
    let between = g.O.Output.seen c.write_texts.new.out in
    let new = g.O.Output.seen c.write_end.new.out in
    let front = joined-count c.args.count c.as_bytes.result.now (c.as_bytes.ensures.value ∙ c.format.ensures.text) in
    let took = subst (Took old between) front c.in_ok-write_texts.ensures.writes in
    let end = subst (λ e. WritesAll between new (line_end e options.observable) c.write_end.result) c.of_errors-errors.ensures.value c.write_end.ensures.writes in record {
      writes = writes_after new (codes "distance " ++ decimal c.args.count) (line_end (of_errors options.graphlike options.everywhere) options.observable) c.write_end.result took end;
    }

use Rattle.stab_commands.proofs.Names.{◌++◌, subst, codes, WritesAll, failed_on, failed_within, if_graphlike, line_end, none_line, up_to}
use Rattle.stab_report.proofs.WritingLaws.{writes_after}
use Rattle.stab_commands.proofs.distance.write_none.Goals as goal

pub returns-in_err-write_none_within : goal.returns-in_err-write_none_within
returns-in_err-write_none_within g c =
    let options = c.args.options in
    let old = g.O.Output.seen c.args.out.now in
    let new = g.O.Output.seen c.write_none_within.new.out in record {
      writes = failed_on old new (none_line c.args.most options.graphlike options.observable) c.in_err-write_none_within.field-0.0 c.from_residual.result c.from_residual.ensures.1
          c.in_err-write_none_within.ensures.writes.0
          (failed_within (codes "none" ++ up_to c.args.most) (line_end (if_graphlike options.graphlike) options.observable) c.in_err-write_none_within.ensures.writes.1);
    }

pub returns : goal.returns
returns g c =
    let options = c.args.options in
    let new = g.O.Output.seen c.write_end.new.out in
    let end = subst (λ e. WritesAll (g.O.Output.seen c.write_none_within.new.out) new (line_end e options.observable) c.write_end.result) c.if_graphlike.ensures.value c.write_end.ensures.writes in record {
      writes = writes_after new (codes "none" ++ up_to c.args.most) (line_end (if_graphlike options.graphlike) options.observable) c.write_end.result c.in_ok-write_none_within.ensures.writes end;
    }

use Rattle.stab_commands.proofs.Names.{◌++◌, failed_on, failed_within}
use Rattle.stab_report.specs.PartTexts.{none_lines, part_head}
use Rattle.stab_report.proofs.WritingLaws.{writes_after}
use Rattle.stab_commands.proofs.part_distance.write_front.Goals as goal

pub returns-in_err-write_part_head : goal.returns-in_err-write_part_head
returns-in_err-write_part_head g c =
    let head = part_head c.args.part c.args.found.now.digest in
    let lines = none_lines c.args.found.now.last in record {
      writes = failed_on (g.O.Output.seen c.args.out.now) (g.O.Output.seen c.write_part_head.new.out) (head ++ lines) c.in_err-write_part_head.field-0.0 c.from_residual.result c.from_residual.ensures.1
          c.in_err-write_part_head.ensures.writes.0
          (failed_within head lines c.in_err-write_part_head.ensures.writes.1);
    }

pub returns : goal.returns
returns g c =
    record { writes = writes_after (g.O.Output.seen c.write_none_lines.new.out) (part_head c.args.part c.args.found.now.digest) (none_lines c.args.found.now.last) c.write_none_lines.result c.in_ok-write_part_head.ensures.writes c.write_none_lines.ensures.writes }

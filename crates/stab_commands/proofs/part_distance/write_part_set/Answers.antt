use Rattle.stab_commands.proofs.Names.{◌++◌, circuit_items, failed_on, failed_within}
use Rattle.stab_report.specs.Distances.{set_text}
use Rattle.stab_report.specs.PartTexts.{first_line}
use Rattle.stab_report.proofs.WritingLaws.{writes_after}
use Rattle.stab_commands.proofs.part_distance.write_part_set.Goals as goal

pub returns-in_err-write_first : goal.returns-in_err-write_first
returns-in_err-write_first g c =
    let text = set_text c.args.options (circuit_items c.args.circuit.now) c.args.errors.now c.args.numbers.now in record {
      writes = failed_on (g.O.Output.seen c.args.out.now) (g.O.Output.seen c.write_first.new.out) (first_line c.args.first ++ text) c.in_err-write_first.field-0.0 c.from_residual.result c.from_residual.ensures.1
          c.in_err-write_first.ensures.writes.0
          (failed_within (first_line c.args.first) text c.in_err-write_first.ensures.writes.1);
    }

pub returns : goal.returns
returns g c =
    let text = set_text c.args.options (circuit_items c.args.circuit.now) c.args.errors.now c.args.numbers.now in
    record { writes = writes_after (g.O.Output.seen c.write_set.new.out) (first_line c.args.first) text c.write_set.result c.in_ok-write_first.ensures.writes c.write_set.ensures.writes }

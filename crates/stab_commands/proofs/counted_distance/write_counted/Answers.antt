use Rattle.stab_commands.proofs.Names.{◌++◌, circuit_items, failed_on, failed_within, answer_text}
use Rattle.stab_report.specs.Distances.{count_line}
use Rattle.stab_report.proofs.WritingLaws.{writes_after}
use Rattle.stab_commands.proofs.counted_distance.write_counted.Goals as goal

pub returns-in_err-write_distance : goal.returns-in_err-write_distance
returns-in_err-write_distance g c =
    let answer = answer_text c.args.options (circuit_items c.args.circuit.now) c.args.found.now.errors c.args.found.now.answer in record {
      writes = failed_on (g.O.Output.seen c.args.out.now) (g.O.Output.seen c.write_distance.new.out) (answer ++ count_line c.args.count) c.in_err-write_distance.field-0.0 c.from_residual.result c.from_residual.ensures.1
          c.in_err-write_distance.ensures.writes.0
          (failed_within answer (count_line c.args.count) c.in_err-write_distance.ensures.writes.1);
    }

pub returns : goal.returns
returns g c =
    let answer = answer_text c.args.options (circuit_items c.args.circuit.now) c.args.found.now.errors c.args.found.now.answer in record {
      writes = writes_after (g.O.Output.seen c.write_sets.new.out) answer (count_line c.args.count) c.write_sets.result c.in_ok-write_distance.ensures.writes c.write_sets.ensures.writes;
    }

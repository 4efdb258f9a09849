use Rattle.stab_commands.proofs.Names.{◌++◌, codes, circuit_items, failed_on, failed_within}
use Rattle.stab_report.specs.PartTexts.{found_text, none_lines, part_head}
use Rattle.stab_report.proofs.WritingLaws.{failed_second, writes_third}
use Rattle.stab_commands.proofs.part_distance.write_part.Goals as goal

pub returns-in_err-write_front : goal.returns-in_err-write_front
returns-in_err-write_front g c =
    let a = c.args.found.now in
    let front = part_head c.args.part a.digest ++ none_lines a.last in
    let rest = found_text c.args.options (circuit_items c.args.circuit.now) c.args.errors.now a.first a.answer ++ codes "end\n" in record {
      writes = failed_on (g.O.Output.seen c.args.out.now) (g.O.Output.seen c.write_front.new.out) (front ++ rest) c.in_err-write_front.field-0.0 c.from_residual.result c.from_residual.ensures.1
          c.in_err-write_front.ensures.writes.0
          (failed_within front rest c.in_err-write_front.ensures.writes.1);
    }

pub returns-in_err-write_found : goal.returns-in_err-write_found
returns-in_err-write_found g c =
    let a = c.args.found.now in
    let front = part_head c.args.part a.digest ++ none_lines a.last in
    let text = found_text c.args.options (circuit_items c.args.circuit.now) c.args.errors.now a.first a.answer in record {
      writes = failed_on (g.O.Output.seen c.args.out.now) (g.O.Output.seen c.write_found.new.out) (front ++ (text ++ codes "end\n")) c.in_err-write_found.field-0.0 c.from_residual-in_err-write_found.result c.from_residual-in_err-write_found.ensures.1
          c.in_err-write_found.ensures.writes.0
          (failed_second front text (codes "end\n") c.in_ok-write_front.ensures.writes c.in_err-write_found.ensures.writes.1);
    }

pub returns : goal.returns
returns g c =
    let a = c.args.found.now in
    let front = part_head c.args.part a.digest ++ none_lines a.last in
    let text = found_text c.args.options (circuit_items c.args.circuit.now) c.args.errors.now a.first a.answer in
    record { writes = writes_third (g.O.Output.seen c.write_all.new.out) front text (codes "end\n") c.write_all.result c.in_ok-write_front.ensures.writes c.in_ok-write_found.ensures.writes c.write_all.ensures.writes }

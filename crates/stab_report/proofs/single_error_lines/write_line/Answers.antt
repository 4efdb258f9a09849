use Rattle.stab_report.proofs.Names.{◌++◌, codes, flat_map, failed_on, failed_within, entry, single_error_text}
use Rattle.stab_report.proofs.WritingLaws.{failed_second, writes_third}
use Rattle.stab_report.proofs.single_error_lines.write_line.Goals as goal

pub returns-in_err-write_single_error : goal.returns-in_err-write_single_error
returns-in_err-write_single_error g c =
    let position = single_error_text c.args.before c.args.path.now c.args.letter c.args.qubit in
    let entries = flat_map (entry c.args.kinds) c.args.row.now in record {
      writes = failed_on (g.O.Output.seen c.args.out.now) (g.O.Output.seen c.write_single_error.new.out) (position ++ (entries ++ codes "\n")) c.in_err-write_single_error.field-0.0 c.from_residual.result c.from_residual.ensures.1
          c.in_err-write_single_error.ensures.writes.0
          (failed_within position (entries ++ codes "\n") c.in_err-write_single_error.ensures.writes.1);
    }

pub returns-in_err-write_entries : goal.returns-in_err-write_entries
returns-in_err-write_entries g c =
    let position = single_error_text c.args.before c.args.path.now c.args.letter c.args.qubit in
    let entries = flat_map (entry c.args.kinds) c.args.row.now in record {
      writes = failed_on (g.O.Output.seen c.args.out.now) (g.O.Output.seen c.write_entries.new.out) (position ++ (entries ++ codes "\n")) c.in_err-write_entries.field-0.0 c.from_residual-in_err-write_entries.result c.from_residual-in_err-write_entries.ensures.1
          c.in_err-write_entries.ensures.writes.0
          (failed_second position entries (codes "\n") c.in_ok-write_single_error.ensures.writes c.in_err-write_entries.ensures.writes.1);
    }

pub returns : goal.returns
returns g c =
    let position = single_error_text c.args.before c.args.path.now c.args.letter c.args.qubit in
    let entries = flat_map (entry c.args.kinds) c.args.row.now in record {
      writes = writes_third (g.O.Output.seen c.write_all.new.out) position entries (codes "\n") c.write_all.result c.in_ok-write_single_error.ensures.writes c.in_ok-write_entries.ensures.writes c.write_all.ensures.writes;
    }

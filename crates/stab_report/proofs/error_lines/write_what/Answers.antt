use Rattle.stab_report.proofs.Names.{◌++◌, codes, flat_map, failed_on, failed_within, entry, error_shown, error_name}
use Rattle.stab_report.proofs.WritingLaws.{failed_second, writes_third}
use Rattle.stab_report.proofs.error_lines.write_what.Goals as goal

pub returns-in_err-write_name : goal.returns-in_err-write_name
returns-in_err-write_name g c =
    let name = error_name (error_shown c.args.error) in
    let entries = flat_map (entry c.args.kinds) c.args.flipped.now in record {
      writes = failed_on (g.O.Output.seen c.args.out.now) (g.O.Output.seen c.write_name.new.out) (name ++ (entries ++ codes "\n")) c.in_err-write_name.field-0.0 c.from_residual.result c.from_residual.ensures.1
          c.in_err-write_name.ensures.writes.0
          (failed_within name (entries ++ codes "\n") c.in_err-write_name.ensures.writes.1);
    }

pub returns-in_err-write_entries : goal.returns-in_err-write_entries
returns-in_err-write_entries g c =
    let name = error_name (error_shown c.args.error) in
    let entries = flat_map (entry c.args.kinds) c.args.flipped.now in record {
      writes = failed_on (g.O.Output.seen c.args.out.now) (g.O.Output.seen c.write_entries.new.out) (name ++ (entries ++ codes "\n")) c.in_err-write_entries.field-0.0 c.from_residual-in_err-write_entries.result c.from_residual-in_err-write_entries.ensures.1
          c.in_err-write_entries.ensures.writes.0
          (failed_second name entries (codes "\n") c.in_ok-write_name.ensures.writes c.in_err-write_entries.ensures.writes.1);
    }

pub returns : goal.returns
returns g c =
    let name = error_name (error_shown c.args.error) in
    let entries = flat_map (entry c.args.kinds) c.args.flipped.now in record {
      writes = writes_third (g.O.Output.seen c.write_all.new.out) name entries (codes "\n") c.write_all.result c.in_ok-write_name.ensures.writes c.in_ok-write_entries.ensures.writes c.write_all.ensures.writes;
    }

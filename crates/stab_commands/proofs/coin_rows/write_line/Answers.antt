use Rattle.stab_commands.proofs.Names.{◌++◌, codes, flat_map, failed_on, failed_within, entry, row_head}
use Rattle.stab_report.proofs.WritingLaws.{failed_second, writes_third}
use Rattle.stab_commands.proofs.coin_rows.write_line.Goals as goal

pub returns-in_err-write_head : goal.returns-in_err-write_head
returns-in_err-write_head g c =
    let head = row_head c.args.coin.now.step c.args.coin.now.path (codes "c") c.args.coin.now.coin in
    let entries = flat_map (entry c.args.kinds) c.args.positions.now in record {
      writes = failed_on (g.O.Output.seen c.args.out.now) (g.O.Output.seen c.write_head.new.out) (head ++ (entries ++ codes "\n")) c.in_err-write_head.field-0.0 c.from_residual.result c.from_residual.ensures.1
          c.in_err-write_head.ensures.writes.0
          (failed_within head (entries ++ codes "\n") c.in_err-write_head.ensures.writes.1);
    }

pub returns-in_err-write_entries : goal.returns-in_err-write_entries
returns-in_err-write_entries g c =
    let head = row_head c.args.coin.now.step c.args.coin.now.path (codes "c") c.args.coin.now.coin in
    let entries = flat_map (entry c.args.kinds) c.args.positions.now in record {
      writes = failed_on (g.O.Output.seen c.args.out.now) (g.O.Output.seen c.write_entries.new.out) (head ++ (entries ++ codes "\n")) c.in_err-write_entries.field-0.0 c.from_residual-in_err-write_entries.result c.from_residual-in_err-write_entries.ensures.1
          c.in_err-write_entries.ensures.writes.0
          (failed_second head entries (codes "\n") c.in_ok-write_head.ensures.writes c.in_err-write_entries.ensures.writes.1);
    }

pub returns : goal.returns
returns g c =
    let head = row_head c.args.coin.now.step c.args.coin.now.path (codes "c") c.args.coin.now.coin in
    let entries = flat_map (entry c.args.kinds) c.args.positions.now in record {
      writes = writes_third (g.O.Output.seen c.write_all.new.out) head entries (codes "\n") c.write_all.result c.in_ok-write_head.ensures.writes c.in_ok-write_entries.ensures.writes c.write_all.ensures.writes;
    }

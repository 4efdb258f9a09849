use Rattle.stab_report.proofs.Names.{subst, WritesAll, row_head}
use Rattle.stab_report.proofs.single_error_lines.write_single_error.Goals as goal

pub returns : goal.returns
returns g c = record {
  writes = subst (λ s. WritesAll (g.O.Output.seen c.args.out.now) (g.O.Output.seen c.write_head.new.out) (row_head c.args.before c.args.path.now s c.args.qubit) c.write_head.result) c.symbol.ensures.value c.write_head.ensures.writes;
}

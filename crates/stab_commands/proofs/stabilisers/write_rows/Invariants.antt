use Rattle.stab_commands.proofs.Names.{WroteUpTo, lines_of}
use Rattle.std.proofs.Math.ListN.{drop}
use Rattle.stab_commands.proofs.stabilisers.write_rows.Given as goal

abbrev pub invariant-loop-row : goal.invariant-loop-row
invariant-loop-row g l = WroteUpTo (g.O.Output.seen l.initial.out) (g.O.Output.seen l.out) (lines_of l.rows) (lines_of (drop l.row-index l.rows))

use Rattle.stab_commands.proofs.Names.{flat_map, WroteUpTo, number_line}
use Rattle.std.proofs.Math.ListN.{drop}
use Rattle.stab_commands.proofs.check.write_lines.Given as goal

abbrev pub invariant-loop-name : goal.invariant-loop-name
invariant-loop-name g l = WroteUpTo (g.O.Output.seen l.initial.out) (g.O.Output.seen l.out) (flat_map (λ x. number_line x.0.now x.1) l.numbers) (flat_map (λ x. number_line x.0.now x.1) (drop l.name-index l.numbers))

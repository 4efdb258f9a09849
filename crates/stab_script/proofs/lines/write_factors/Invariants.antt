use Rattle.stab_script.proofs.Names.{drop, flat_map, WroteUpTo, factor_in_way}
use Rattle.stab_script.proofs.lines.write_factors.Given as goal

abbrev pub invariant-loop-placed : goal.invariant-loop-placed
invariant-loop-placed g l =
    WroteUpTo (g.O.Output.seen l.initial.out) (g.O.Output.seen l.out) (flat_map factor_in_way l.letters) (flat_map factor_in_way (drop l.placed-index l.letters))

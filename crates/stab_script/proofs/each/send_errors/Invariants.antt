use Rattle.stab_script.proofs.Names.{drop, flat_map, WroteUpTo, circuit_items}
use Rattle.stab_script.proofs.EachLemmas.{line_of}
use Rattle.stab_script.proofs.each.send_errors.Given as goal

abbrev pub invariant-single_errors : goal.invariant-single_errors
invariant-single_errors g l =
    let line = line_of (circuit_items l.circuit) in
    WroteUpTo (g.O.Output.seen l.initial.out) (g.O.Output.seen l.out) (flat_map line l.single_errors) (flat_map line (drop l.k l.single_errors))

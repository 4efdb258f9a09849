use Rattle.stab_search.proofs.Names.{drop, flat_map, map, HasWritten, clause_text, is_false}
use Rattle.stab_search.proofs.writing.write_false.Given as goal

abbrev pub invariant-each : goal.invariant-each
invariant-each g l =
    HasWritten (g.O.Output.seen l.initial.out) (g.O.Output.seen l.out) (flat_map (clause_text l.weight) (map is_false l.variables))
    (flat_map (clause_text l.weight) (map is_false (drop l.variable-index l.variables)))

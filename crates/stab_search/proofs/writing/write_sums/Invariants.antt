use Rattle.stab_search.proofs.Names.{drop, flat_map, HasWritten, clause_text, sum_clauses}
use Rattle.stab_search.proofs.writing.write_sums.Given as goal

abbrev pub invariant-each : goal.invariant-each
invariant-each g l =
    HasWritten (g.O.Output.seen l.initial.out) (g.O.Output.seen l.out) (flat_map (clause_text l.weight) (flat_map sum_clauses l.sums))
    (flat_map (clause_text l.weight) (flat_map sum_clauses (drop l.sum-index l.sums)))

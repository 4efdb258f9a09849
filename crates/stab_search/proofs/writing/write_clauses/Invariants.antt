use Rattle.stab_search.proofs.Names.{drop, flat_map, map, HasWritten, clause_text}
use Rattle.stab_search.proofs.writing.write_clauses.Given as goal

abbrev pub invariant-each : goal.invariant-each
invariant-each g l =
    HasWritten (g.O.Output.seen l.initial.out) (g.O.Output.seen l.out) (flat_map (clause_text l.weight) (map (λ c. c.now) l.clauses))
    (flat_map (clause_text l.weight) (map (λ c. c.now) (drop l.clause-index l.clauses)))

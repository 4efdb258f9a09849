use Rattle.stab_search.proofs.Names.{map, drop, AscendsFrom, IsAscending, row, class_of}
use Rattle.stab_search.proofs.enough_errors.are_distinct.Given as goal

abbrev pub invariant-parts : goal.invariant-parts
invariant-parts l =
    AscendsFrom l.from (map (λ r. class_of l.classes (row l.retained.table.rows r)) (drop l.r-index l.parts))
    → IsAscending (map (λ r. class_of l.classes (row l.retained.table.rows r)) l.parts)

use Rattle.stab_search.proofs.Names.{◌-◌, flat_map, map, range_with_len, HasWritten, clause_text, without}
use Rattle.stab_search.proofs.writing.write_errors.Given as goal

abbrev pub invariant-errors : goal.invariant-errors
invariant-errors g l =
    HasWritten (g.O.Output.seen l.initial.out) (g.O.Output.seen l.out) (flat_map (clause_text 1) (map without (range_with_len 0 l.errors)))
    (flat_map (clause_text 1) (map without (range_with_len l.number (l.errors - l.number))))

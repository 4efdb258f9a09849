use Rattle.stab_search.proofs.Names.{drop, flat_map, HasWritten, literal_text}
use Rattle.stab_search.proofs.writing.write_literals.Given as goal

abbrev pub invariant-each : goal.invariant-each
invariant-each g l = HasWritten (g.O.Output.seen l.initial.out) (g.O.Output.seen l.out) (flat_map literal_text l.literals) (flat_map literal_text (drop l.literal-index l.literals))

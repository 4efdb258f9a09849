use Rattle.stab_search.proofs.Names.{◌≡◌, drop, ◌⊕◌, odd}
use Rattle.stab_search.proofs.row.flips.Given as goal

abbrev pub invariant-each : goal.invariant-each
invariant-each l = l.odd ⊕ odd l.i (drop l.n-index l.numbers) ≡ odd l.i l.numbers

use Rattle.stab_search.proofs.Names.{◌≡◌, drop, ◌⊕◌, odd_members}
use Rattle.stab_search.proofs.certificate.names_odd.Given as goal

abbrev pub invariant-each : goal.invariant-each
invariant-each l = l.odd ⊕ odd_members l.members (drop l.i-index l.numbers) ≡ odd_members l.members l.numbers

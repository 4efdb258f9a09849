use Rattle.stab_tableau.proofs.Names.{◌≡◌, take}
use Rattle.stab_tableau.proofs.tableau.strings_of.Given as goal

abbrev pub invariant-loop-row : goal.invariant-loop-row
invariant-loop-row l = l.strings.items ≡ take l.row l.rows.rows

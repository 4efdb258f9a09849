use Rattle.stab_search.proofs.Names.{◌≤◌, length, MoveDown}
use Rattle.stab_search.proofs.steps.moved_from.Given as goal

abbrev pub invariant-later : goal.invariant-later
invariant-later l = record { within : l.from ≤ length l.errors.table.rows; moved : MoveDown l.errors.table l.from l.lower }

abbrev pub decreases-later : goal.decreases-later
decreases-later l = l.from

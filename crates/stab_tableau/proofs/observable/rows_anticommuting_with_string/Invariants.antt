use Rattle.stab_tableau.proofs.Names.{◌*◌}
use Rattle.stab_tableau.proofs.AnticommutingRowsLemmas.{AreDistinct}
use Rattle.stab_tableau.proofs.observable.rows_anticommuting_with_string.Given as goal

abbrev pub invariant-loop-rest : goal.invariant-loop-rest
invariant-loop-rest l = AreDistinct (32 * l.group) l.rest l.mask l.pauli.letters

abbrev pub decreases-loop-rest : goal.decreases-loop-rest
decreases-loop-rest l = l.rest

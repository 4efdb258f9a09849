use Rattle.stab_tableau.proofs.Names.{◌*◌, length}
use Rattle.stab_tableau.proofs.WalkLemmas.{Walked}
use Rattle.stab_tableau.proofs.rows.multiply_by_word.Given as goal

abbrev pub invariant-loop-rest : goal.invariant-loop-rest
invariant-loop-rest l = Walked (length l.table) l.table l.pauli.letters (64 * l.word) l.rest l.out

abbrev pub decreases-loop-rest : goal.decreases-loop-rest
decreases-loop-rest l = l.rest

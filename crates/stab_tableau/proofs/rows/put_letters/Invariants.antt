use Rattle.stab_tableau.proofs.PutLettersLemmas.{ArePut}
use Rattle.stab_tableau.proofs.rows.put_letters.Given as goal

abbrev pub invariant-loop-rest : goal.invariant-loop-rest
invariant-loop-rest l = ArePut l.first l.mask l.rest l.fn.out l.out

abbrev pub decreases-loop-rest : goal.decreases-loop-rest
decreases-loop-rest l = l.rest

use Rattle.stab_pauli.proofs.Names.{with_sign}
use Rattle.stab_pauli.proofs.Lemmas.{IsWalked}
use Rattle.stab_pauli.proofs.rows.PauliRows.negate_rows.Given as goal

abbrev pub invariant-loop-rest : goal.invariant-loop-rest
invariant-loop-rest l = IsWalked l.first l.mask l.rest with_sign l.fn.self l.self

abbrev pub decreases-loop-rest : goal.decreases-loop-rest
decreases-loop-rest l = l.rest

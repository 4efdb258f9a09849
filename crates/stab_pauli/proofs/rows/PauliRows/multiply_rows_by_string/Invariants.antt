use Rattle.stab_pauli.proofs.Names.{product_times_i_if}
use Rattle.stab_pauli.proofs.Lemmas.{IsWalked}
use Rattle.stab_pauli.proofs.rows.PauliRows.multiply_rows_by_string.Given as goal

abbrev pub invariant-loop-rest : goal.invariant-loop-rest
invariant-loop-rest l = IsWalked l.first l.mask l.rest (λ b p. product_times_i_if b p l.other) l.fn.self l.self

abbrev pub decreases-loop-rest : goal.decreases-loop-rest
decreases-loop-rest l = l.rest

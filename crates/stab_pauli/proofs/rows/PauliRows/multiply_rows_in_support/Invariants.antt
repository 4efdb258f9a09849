use Rattle.stab_pauli.proofs.Names.{product_times_i_if, blocks_of, row_letters, signed_row}
use Rattle.stab_pauli.proofs.Lemmas.{IsWalked}
use Rattle.stab_pauli.proofs.rows.PauliRows.multiply_rows_in_support.Given as goal

abbrev pub invariant-loop-rest : goal.invariant-loop-rest
invariant-loop-rest l =
    IsWalked l.first l.mask l.rest (λ b p. product_times_i_if b p (signed_row l.fn.self.qubits l.power (row_letters (blocks_of l.fn.self.qubits) l.words))) l.fn.self l.self

abbrev pub decreases-loop-rest : goal.decreases-loop-rest
decreases-loop-rest l = l.rest

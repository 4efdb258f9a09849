use Rattle.stab_pauli.proofs.Names.{◌≡◌, ℕ, ◌+◌, ◌*◌, ◌<◌, true, get_or, chunk, I, has_x, chooses, row_letters}
use Rattle.stab_pauli.proofs.packed.part.positions_with_x.Given as goal

abbrev pub invariant-loop-k : goal.invariant-loop-k
invariant-loop-k l =
    (k j : ℕ) → k < l.k → j < 64 → has_x (get_or (row_letters l.blocks (chunk (8 * l.blocks * k) (8 * l.blocks) l.part)) (64 * l.word + j) I) ≡ true → chooses l.positions j ≡ true

use Rattle.stab_pauli.proofs.Names.{◌+◌, ◌*◌, get_or, chunk, I, has_x, row_letters}
use Rattle.stab_pauli.proofs.Lemmas.{gathered-next}
use Rattle.stab_pauli.proofs.packed.part.positions_with_x.Goals as goal

pub loop-k-preserved : goal.loop-k-preserved
loop-k-preserved c =
    gathered-next (λ k j. has_x (get_or (row_letters c.args.blocks (chunk (8 * c.args.blocks * k) (8 * c.args.blocks) c.args.part.now)) (64 * c.args.word + j) I))
    c.loop-k.k c.loop-k.positions c.x_mask-positions.result c.x_mask-positions.ensures.value c.loop-k.invariant

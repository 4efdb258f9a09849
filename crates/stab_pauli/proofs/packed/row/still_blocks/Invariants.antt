use Rattle.stab_pauli.proofs.Names.{◌*◌, row_letters, HasNoXBefore}
use Rattle.stab_pauli.proofs.packed.row.still_blocks.Given as goal

abbrev pub invariant-loop-block : goal.invariant-loop-block
invariant-loop-block l = HasNoXBefore (256 * l.block) (row_letters l.blocks l.row)

use Rattle.stab_pauli.proofs.Names.{◌*◌, row_letters, HasNoXBefore}
use Rattle.stab_pauli.proofs.packed.row.first_x.Given as goal

abbrev pub invariant-loop-word : goal.invariant-loop-word
invariant-loop-word l = HasNoXBefore (64 * l.word) (row_letters l.blocks l.row)

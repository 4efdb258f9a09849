use Rattle.stab_pauli.proofs.Names.{◌*◌, row_letters, IsBlankFrom}
use Rattle.stab_pauli.proofs.packed.row.next_letter.Given as goal

abbrev pub invariant-loop-word : goal.invariant-loop-word
invariant-loop-word l = IsBlankFrom l.from (64 * l.word) (row_letters l.blocks l.row)

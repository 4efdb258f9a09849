use Rattle.stab_pauli.proofs.Lemmas.{CoversBefore}
use Rattle.stab_pauli.proofs.packed.support.of.Given as goal

abbrev pub invariant-loop-block : goal.invariant-loop-block
invariant-loop-block l = CoversBefore l.block l.mask l.row

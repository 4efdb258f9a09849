use Rattle.stab_pauli.proofs.Names.{◌*◌, take, IsSparse}
use Rattle.stab_pauli.proofs.packed.sparse.SparseWords.of.Given as goal

abbrev pub invariant-loop-block : goal.invariant-loop-block
invariant-loop-block l = IsSparse l.sparse.gaps.items l.sparse.stored.items l.sparse.following (take (8 * l.block) l.words)

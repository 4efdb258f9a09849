use Rattle.stab_pauli.proofs.Lemmas.{IsWriting}
use Rattle.stab_pauli.proofs.packed.sparse.SparseWords.write_into.Given as goal

abbrev pub invariant-loop-k : goal.invariant-loop-k
invariant-loop-k l = IsWriting l.self.gaps.items l.self.stored.items l.self.following l.k l.at l.initial.words l.words

use Rattle.stab_pauli.proofs.Names.{spread, IsSparse}
use Rattle.stab_pauli.proofs.packed.sparse.SparseWords.cut_gaps.Given as goal

abbrev pub invariant-loop-self : goal.invariant-loop-self
invariant-loop-self l = IsSparse l.self.gaps.items l.self.stored.items l.self.following (spread l.initial.self.gaps.items l.initial.self.stored.items l.initial.self.following)

abbrev pub decreases-loop-self : goal.decreases-loop-self
decreases-loop-self l = l.self.following

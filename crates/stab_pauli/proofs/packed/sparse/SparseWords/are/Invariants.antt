use Rattle.stab_pauli.proofs.Names.{◌≡◌, ◌*◌, ◌++◌, take, spread, words_from}
use Rattle.stab_pauli.proofs.packed.sparse.SparseWords.are.Given as goal

abbrev pub invariant-loop-block : goal.invariant-loop-block
invariant-loop-block l =
    spread l.self.gaps.items l.self.stored.items l.self.following
    ≡ take (8 * l.block) l.words ++ words_from l.self.gaps.items l.self.stored.items l.self.following l.position.next l.position.gap

use Rattle.stab_pauli.proofs.Names.{◌≡◌, ◌++◌, take, words_from}
use Rattle.stab_pauli.proofs.packed.sparse.SparseWords.has_words.Given as goal

abbrev pub invariant-loop-k : goal.invariant-loop-k
invariant-loop-k l =
    words_from l.self.gaps.items l.self.stored.items l.self.following l.initial.position.next l.initial.position.gap
    ≡ take l.k l.block ++ words_from l.self.gaps.items l.self.stored.items l.self.following l.position.next l.position.gap

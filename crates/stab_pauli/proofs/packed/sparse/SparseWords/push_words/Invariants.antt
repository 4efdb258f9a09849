use Rattle.stab_pauli.proofs.Names.{◌+◌, ◌++◌, ◌≤◌, take, spread, IsSparse}
use Rattle.stab_pauli.proofs.packed.sparse.SparseWords.push_words.Given as goal

abbrev pub invariant-loop-k : goal.invariant-loop-k
invariant-loop-k l = record {
  following : l.self.following ≤ l.initial.self.following + l.k;
  sparse : IsSparse l.self.gaps.items l.self.stored.items l.self.following (spread l.initial.self.gaps.items l.initial.self.stored.items l.initial.self.following ++ take l.k l.block);
}

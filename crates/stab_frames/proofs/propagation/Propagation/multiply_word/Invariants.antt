use Rattle.stab_frames.proofs.Names.{◌≡◌, ◌*◌}
use Rattle.stab_frames.proofs.ProductLemmas.{IsWalked}
use Rattle.stab_frames.proofs.propagation.Propagation.multiply_word.Given as goal

abbrev pub invariant-loop-rest : goal.invariant-loop-rest
invariant-loop-rest l = record {
  alone : l.self ≡ record l.initial.self { letters = l.self.letters };
  propagated : IsWalked (64 * l.word) l.rest l.string.letters l.initial.self.letters l.self.letters;
}

abbrev pub decreases-loop-rest : goal.decreases-loop-rest
decreases-loop-rest l = l.rest

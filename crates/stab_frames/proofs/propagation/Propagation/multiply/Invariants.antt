use Rattle.stab_frames.proofs.Names.{◌≡◌, ◌*◌}
use Rattle.stab_frames.proofs.ProductLemmas.{IsMultipliedTo}
use Rattle.stab_frames.proofs.propagation.Propagation.multiply.Given as goal

abbrev pub invariant-loop-word : goal.invariant-loop-word
invariant-loop-word l = record {
  alone : l.self ≡ record l.initial.self { letters = l.self.letters };
  so : IsMultipliedTo (64 * l.word) l.string.letters l.initial.self.letters l.self.letters;
}

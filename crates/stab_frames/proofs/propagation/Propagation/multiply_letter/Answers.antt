use Rattle.stab_frames.proofs.Names.{arith, ◌∙◌, ap, length, PropagationState, length-set}
use Rattle.stab_frames.proofs.PropagationLemmas.{product-single, read-letter}
use Rattle.stab_frames.proofs.propagation.Propagation.multiply_letter.Goals as goal

pub returns : goal.returns
returns c = record {
  length = ap (λ (w : PropagationState). length w.letters) c.set.ensures.value ∙ length-set c.args.self.now.letters c.args.qubit c.times-product.result;
  value =
      c.set.ensures.value
      ∙ ap (λ w. record c.args.self.now { letters = w })
      (product-single c.args.self.now.letters c.args.qubit c.args.letter c.times-product.result c.requires.in_range (grind (arith, c.times-product.ensures.value, read-letter c.args.self.now.letters c.args.qubit c.index.result.now)));
}

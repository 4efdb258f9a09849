use Rattle.stab_frames.proofs.Names.{rules, ◌*◌}
use Rattle.stab_frames.proofs.ProductLemmas.{propagation-step, put-letters, letters-alone, still-alone}
use Rattle.stab_frames.proofs.propagation.Propagation.multiply_word.Goals as goal

pub loop-rest-preserved : goal.loop-rest-preserved
loop-rest-preserved c = record {
  alone = still-alone c.args.self.now c.loop-rest.self c.set.new.self c.loop-rest.invariant.alone
      (letters-alone c.loop-rest.self c.set.new.self _ c.set.ensures.value);
  propagated = propagation-step (64 * c.args.word) c.args.string.now.letters c.args.self.now.letters c.loop-rest.self.letters c.loop-rest.rest c.first-bit.result
      c.loop-rest.invariant.propagated c.first-bit.ensures.in_range c.first-bit.ensures.chosen c.letter.result c.times-product.result
      c.letter.ensures.value (search rules) c.set.new.self.letters (put-letters c.loop-rest.self c.set.new.self _ c.set.ensures.value)
      c.without-rest.result c.without-rest.ensures.gone c.without-rest.ensures.others;
}

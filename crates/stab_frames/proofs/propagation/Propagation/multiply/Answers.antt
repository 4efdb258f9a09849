use Rattle.stab_frames.proofs.Names.{arith, ◌∙◌, ap, ◌*◌, ◌≤◌, length}
use Rattle.stab_frames.proofs.ProductLemmas.{multiplied-word, all-multiplied, still-alone}
use Rattle.stab_frames.proofs.propagation.Propagation.multiply.Goals as goal

pub loop-word-preserved : goal.loop-word-preserved
loop-word-preserved c = record {
  alone = still-alone c.args.self.now c.loop-word.self c.multiply_word.new.self c.loop-word.invariant.alone c.multiply_word.ensures.alone;
  so = multiplied-word c.loop-word.word c.args.string.now.letters c.args.self.now.letters c.loop-word.self.letters c.multiply_word.new.self.letters
      c.loop-word.invariant.so c.multiply_word.ensures.letters;
}

pub returns-clause-value : goal.returns-clause-value
returns-clause-value c =
    let over : length c.args.self.now.letters ≤ 64 * c.loop-word.word =
    grind (arith, c.requires.same_length, c.len.ensures.value, c.div_ceil-word-end.ensures, c.loop-word-test.false) in
    c.loop-word.invariant.alone
    ∙ ap (λ l. record c.args.self.now { letters = l })
    (all-multiplied (64 * c.loop-word.word) c.args.string.now.letters c.args.self.now.letters c.loop-word.self.letters c.requires.same_length over
    c.loop-word.invariant.so)

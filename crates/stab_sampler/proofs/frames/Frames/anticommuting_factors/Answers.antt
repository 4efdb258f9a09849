use Rattle.stab_sampler.proofs.Names.{sym, ◌∙◌, ap, length-map, drop_all, ◌⊕◌, parity-false, factors_anticommute, factors-distinct, letter_in, lane_letters}
use Rattle.stab_sampler.proofs.frames.Frames.anticommuting_factors.Goals as goal

pub returns : goal.returns
returns g c = record {
  value = λ l lt.
      let letters = c.args.self.now.letters.items in
      let lane = lane_letters g.W.Word.at l letters in
      let found = g.W.Word.at c.loop-factor.anticommuting l in
      sym (parity-false found)
      ∙ ap (λ fs. found ⊕ factors_anticommute lane fs) (sym (drop_all c.loop-factor.factor-index c.args.factors.now c.loop-factor-test.false))
      ∙ c.loop-factor.invariant l lt
      ∙ sym (factors-distinct _ lane c.args.factors.now (length-map letters (letter_in g.W.Word.at l)) c.requires.in_range c.requires.distinct);
}

use Rattle.stab_frames.proofs.Names.{refl, sym, ◌∙◌, ap, length, factors_anticommute}
use Rattle.stab_frames.proofs.FactorLemmas.{factors-distinct}
use Rattle.stab_frames.proofs.GoesOverLemmas.{goes-product}
use Rattle.stab_frames.proofs.propagate_step.propagate_product.Goals as goal

pub returns-in_ok-flip_measured-in-Some-clause-goes : goal.returns-in_ok-flip_measured-in-Some-clause-goes
returns-in_ok-flip_measured-in-Some-clause-goes g c =
    let n = length c.args.propagation.now.letters in
    let distinct =
    factors-distinct n c.args.propagation.now.letters c.args.factors.now refl c.requires.in_range c.requires.distinct
    ∙ ap (λ l. factors_anticommute l c.args.factors.now) (sym c.letters.ensures.value)
    ∙ sym c.anticommutes-anticommuting.ensures.value in
    (λ inverted. record {
      went = λ is. goes-product n c.args.known.strings.now.strings c.args.known.free.now (g.D.Draw.changes c.args.known.draw.now (g.C.Coins.sequence c.args.coins.now))
          c.args.factors.now inverted c.anticommutes-anticommuting.result c.in-Some.flipped c.args.propagation.now c.propagate_outcome.new.propagation c.flip_measured.new.propagation distinct
          c.in-Some.ensures.passed c.in_ok-flip_measured-in-Some.ensures.value (ap length c.flip_measured.ensures.letters ∙ c.in-Some.ensures.length);
      same = λ other. cc;
      missing = λ other. cc;
    })

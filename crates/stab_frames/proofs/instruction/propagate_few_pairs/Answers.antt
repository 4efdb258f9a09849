use Rattle.stab_frames.proofs.Names.{refl, sym, ◌∙◌, ap, subst, length, All, list_any, PairFits, touches_pair}
use Rattle.stab_frames.proofs.TouchLemmas.{pairs-fit, pairs-untouched}
use Rattle.stab_frames.proofs.instruction.propagate_few_pairs.Goals as goal

pub touches_some-requires : goal.touches_some-requires
touches_some-requires c = record {
  fits = subst (λ letters. All (PairFits (length letters)) c.args.pairs.now) (sym c.letters.ensures.value)
      (pairs-fit (length c.args.propagation.now.letters) c.args.axis c.args.pairs.now c.requires.fits);
}

pub returns-then-not-touches_some-clause-goes : goal.returns-then-not-touches_some-clause-goes
returns-then-not-touches_some-clause-goes c =
    pairs-untouched (length c.args.propagation.now.letters) c.args.axis c.args.pairs.now c.args.propagation.now
    (ap (λ letters. list_any (touches_pair letters) c.args.pairs.now) (sym c.letters.ensures.value) ∙ sym c.touches_some.ensures.value ∙ c.if-not-touches_some.true) refl

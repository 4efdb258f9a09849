use Rattle.stab_frames.proofs.Names.{◌<◌, refl, sym, ◌∙◌, ap, subst, length, All, list_any, touches_target}
use Rattle.stab_frames.proofs.RandomLemmas.{asks-none}
use Rattle.stab_frames.proofs.StillPropagationLemmas.{targets-fit, goes-still}
use Rattle.stab_frames.proofs.instruction.propagate_few_measurements.Goals as goal

pub anticommutes_some-requires : goal.anticommutes_some-requires
anticommutes_some-requires g c = record {
  fits = subst (λ letters. All (λ t. t.qubit < length letters) c.args.targets.now) (sym c.letters.ensures.value)
      (targets-fit (length c.args.propagation.now.letters) c.args.measurement c.args.targets.now c.requires.fits);
}

pub returns-clause-goes : goal.returns-clause-goes
returns-clause-goes g c =
    goes-still (length c.args.propagation.now.letters) c.args.known.strings.now.strings c.args.known.free.now
    (g.D.Draw.changes c.args.known.draw.now (g.C.Coins.sequence c.args.coins.now)) c.args.measurement c.args.targets.now c.letter-letter.result
    c.args.propagation.now c.skip_still.new.self (c.is_still.ensures.still c.if-not-is_still.false (g.C.Coins.sequence c.args.coins.now)) c.letter-letter.ensures.value c.requires.fits
    (ap (λ letters. list_any (touches_target letters c.letter-letter.result) c.args.targets.now) (sym c.letters.ensures.value)
    ∙ sym c.anticommutes_some.ensures.value
    ∙ c.if-anticommutes_some.false)
    refl c.requires.placed (c.in_ok-skip_still.ensures {u = tt}).value

pub returns-in_err-skip_still-clause-asks : goal.returns-in_err-skip_still-clause-asks
returns-in_err-skip_still-clause-asks g c = asks-none c.args.known.free.now c.args.propagation.now.coin (length c.args.targets.now) (g.C.Coins.asks c.args.coins.now)

pub returns-clause-asks : goal.returns-clause-asks
returns-clause-asks g c = asks-none c.args.known.free.now c.args.propagation.now.coin (length c.args.targets.now) (g.C.Coins.asks c.args.coins.now)

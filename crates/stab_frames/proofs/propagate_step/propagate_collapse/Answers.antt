use Rattle.stab_frames.proofs.Names.{refl, sym, ◌∙◌, ap, length, ◌&&◌, letters_anticommute, single, times_where}
use Rattle.stab_frames.proofs.FactorLemmas.{single-anticommute}
use Rattle.stab_frames.proofs.GoesOverLemmas.{goes-collapse}
use Rattle.stab_frames.proofs.propagate_step.propagate_collapse.Goals as goal

pub returns-in_ok-flip_measured-in-Some-clause-goes : goal.returns-in_ok-flip_measured-in-Some-clause-goes
returns-in_ok-flip_measured-in-Some-clause-goes g c =
    let n = length c.args.propagation.now.letters in
    let mid = c.propagate_outcome.new.propagation in
    let distinct =
    single-anticommute n c.args.qubit c.args.letter c.args.propagation.now.letters refl c.requires.in_range
    ∙ ap (λ l. letters_anticommute l c.args.letter) (sym c.letter.ensures.value)
    ∙ sym c.anticommutes-anticommuting.ensures.value in
    (λ inverted. record {
      went = λ is. goes-collapse n c.args.known.strings.now.strings c.args.known.free.now (g.D.Draw.changes c.args.known.draw.now (g.C.Coins.sequence c.args.coins.now))
          c.args.letter c.args.qubit c.args.recorded inverted c.args.resets c.anticommutes-anticommuting.result c.in-Some.flipped c.args.propagation.now mid c.multiply_if.new.propagation
          c.flip_measured.new.propagation distinct c.in-Some.ensures.passed c.in-Some.ensures.length
          (c.multiply_if.ensures.value
          ∙ ap (λ l. record mid { letters = times_where (c.args.resets && c.in-Some.flipped) (single (length mid.letters) c.args.qubit l).letters mid.letters }) c.flip.ensures.value)
          c.in_ok-flip_measured-in-Some.ensures.value
          (ap length c.flip_measured.ensures.letters ∙ c.multiply_if.ensures.length ∙ c.in-Some.ensures.length);
      same = λ other. cc;
      missing = λ other. cc;
    })

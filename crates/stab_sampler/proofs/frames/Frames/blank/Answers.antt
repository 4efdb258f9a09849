use Rattle.stab_sampler.proofs.Names.{◌∙◌, ap, I, letter_in, lane_letters}
use Rattle.stab_sampler.proofs.LaneLemmas.{map-replicate}
use Rattle.stab_sampler.proofs.frames.Frames.blank.Goals as goal

pub returns-clause-letters : goal.returns-clause-letters
returns-clause-letters g c = λ l lt.
    ap (lane_letters g.W.Word.at l) c.in_ok-repeated.ensures.value
    ∙ map-replicate (letter_in g.W.Word.at l) c.args.n c.blank.result I (c.blank.ensures.value l lt)

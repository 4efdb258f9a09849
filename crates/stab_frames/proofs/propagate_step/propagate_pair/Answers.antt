use Rattle.stab_frames.proofs.Names.{◌∙◌, ap, set, PropagationState}
use Rattle.stab_frames.proofs.ImageLemmas.{pair-image}
use Rattle.stab_frames.proofs.propagate_step.propagate_pair.Goals as goal

pub returns-clause-value : goal.returns-clause-value
returns-clause-value c =
    c.set-2.ensures.value
    ∙ ap (λ (w : PropagationState). record w { letters = set w.letters c.args.second c.second_image.result }) c.set.ensures.value
    ∙ ap (λ s. record c.args.propagation.now { letters = s })
    (pair-image c.args.gate c.args.propagation.now.letters c.args.first c.args.second c.letter-old.result c.letter-other.result c.first_image.result c.second_image.result
    c.letter-old.ensures.value c.letter-other.ensures.value c.first_image.ensures.value c.second_image.ensures.value)

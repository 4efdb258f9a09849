use Rattle.stab_frames.proofs.Names.{◌∙◌, ap}
use Rattle.stab_frames.proofs.ImageLemmas.{gate-image}
use Rattle.stab_frames.proofs.propagate_step.propagate_gate.Goals as goal

pub returns-clause-value : goal.returns-clause-value
returns-clause-value c =
    c.set.ensures.value
    ∙ ap (λ s. record c.args.propagation.now { letters = s })
    (gate-image c.args.gate c.args.propagation.now.letters c.args.qubit c.letter-old.result c.image.result c.letter-old.ensures.value c.image.ensures.value)

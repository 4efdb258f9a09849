use Rattle.stab_pauli.proofs.Lemmas.{with-here, with-others}
use Rattle.stab_pauli.proofs.masks.with_if.Goals as goal

pub returns-clause-here : goal.returns-clause-here
returns-clause-here c = with-here c.args.mask c.args.k c.from.result c.args.chosen c.requires.in_range c.requires.blank c.from.ensures

pub returns-clause-others : goal.returns-clause-others
returns-clause-others c = λ j ne. with-others c.args.mask c.args.k c.from.result j c.args.chosen c.requires.in_range ne c.from.ensures

use Rattle.stab_pauli.proofs.Lemmas.{without-gone, without-others, without-fewer}
use Rattle.stab_pauli.proofs.masks.without.Goals as goal

pub returns-clause-gone : goal.returns-clause-gone
returns-clause-gone c = without-gone c.args.mask c.args.k c.requires.in_range

pub returns-clause-others : goal.returns-clause-others
returns-clause-others c = λ j ne lj. without-others c.args.mask c.args.k j c.requires.in_range ne lj

pub returns-clause-fewer : goal.returns-clause-fewer
returns-clause-fewer c = λ one. without-fewer c.args.mask c.args.k c.requires.in_range one

use Rattle.stab_pauli.proofs.Lemmas.{following-first, following-others, byte-small}
use Rattle.stab_pauli.proofs.masks.following.Goals as goal

pub returns-clause-first : goal.returns-clause-first
returns-clause-first c = following-first c.args.mask c.from.result c.args.chosen c.from.ensures

pub returns-clause-others : goal.returns-clause-others
returns-clause-others c = λ k. following-others c.args.mask c.from.result k (byte-small c.from.result c.args.chosen c.from.ensures)

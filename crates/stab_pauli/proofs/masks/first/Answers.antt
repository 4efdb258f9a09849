use Rattle.stab_pauli.proofs.Lemmas.{first-chosen}
use Rattle.stab_pauli.proofs.masks.first.Goals as goal

pub returns-clause-chosen : goal.returns-clause-chosen
returns-clause-chosen c = first-chosen c.args.mask c.requires.some c.ranges.mask.fits

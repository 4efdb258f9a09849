use Rattle.stab_regions.proofs.Names.{length}
use Rattle.stab_regions.proofs.ShowLemmas.{collapse-moves}
use Rattle.stab_regions.proofs.steps.before_collapse.Goals as goal

pub returns-clause-regions : goal.returns-clause-regions
returns-clause-regions c = λ inverted.
    collapse-moves (length c.args.by_x.now) c.args.qubit c.args.letter c.args.recorded inverted c.args.reset c.args.by_x.now c.args.by_z.now _ _ _ _ _ _ _ c.requires.in_range
    c.in_ok-corrected.ensures.odd c.taken-taken.ensures.odd c.in_ok-counted.ensures.odd c.taken-taken.ensures.others c.in_ok-multiply.ensures.strings

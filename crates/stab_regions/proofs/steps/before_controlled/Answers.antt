use Rattle.stab_regions.proofs.Names.{length}
use Rattle.stab_regions.proofs.ShowLemmas.{controlled-moves}
use Rattle.stab_regions.proofs.steps.before_controlled.Goals as goal

pub returns : goal.returns
returns c = record {
  regions =
      controlled-moves (length c.args.by_x.now) c.args.qubit c.args.k c.args.letter c.args.by_x.now c.args.by_z.now _ _ _ c.requires.in_range
      c.in_ok-parities.ensures.odd c.in_ok-look_back.ensures.looks;
}

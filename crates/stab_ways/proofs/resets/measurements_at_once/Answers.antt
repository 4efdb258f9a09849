use Rattle.stab_ways.proofs.Names.{◌<◌, sym, subst, All, All-take, length, MeasureTarget}
use Rattle.stab_frames.proofs.StillPropagationLemmas.{targets-fit}
use Rattle.stab_ways.proofs.resets.measurements_at_once.Goals as goal

pub has_letters-requires : goal.has_letters-requires
has_letters-requires c = record {
  in_range = subst (All (λ (t : MeasureTarget). t.qubit < length c.args.letters.now)) (sym c.split_at.ensures.front)
      (All-take (λ (t : MeasureTarget). t.qubit < length c.args.letters.now) c.min-count.result c.args.targets.now
      (targets-fit (length c.args.letters.now) c.args.measurement c.args.targets.now c.requires.fits));
}

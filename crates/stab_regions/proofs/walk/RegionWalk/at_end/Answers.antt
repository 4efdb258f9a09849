use Rattle.stab_regions.proofs.WalkLemmas.{numbered-end, parities-end, effects-end}
use Rattle.stab_regions.specs.declared.walk.Numbered.TheVariants.{Parities, Effects}
use Rattle.stab_regions.proofs.walk.RegionWalk.at_end.Goals as goal

pub returns-in-Parities : goal.returns-in-Parities
returns-in-Parities c = record {
  numbered = numbered-end c.parities_at_end.result c.args.numbered Parities c.in-Parities.is c.parities_at_end.ensures.numbered;
  state = parities-end c.parities_at_end.result c.args.counts c.parities_at_end.ensures.numbered c.parities_at_end.ensures.state;
}

pub returns-in-Effects : goal.returns-in-Effects
returns-in-Effects c = record {
  numbered = numbered-end c.effects_at_end.result c.args.numbered Effects c.in-Effects.is c.effects_at_end.ensures.numbered;
  state = effects-end c.effects_at_end.result c.args.counts c.effects_at_end.ensures.numbered c.effects_at_end.ensures.state;
}

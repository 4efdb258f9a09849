use Rattle.stab_sampler.proofs.Names.{rules}
use Rattle.stab_sampler.proofs.SeedLemmas.{flipped-here, flipped-off}
use Rattle.stab_sampler.proofs.coins.flip_lane.Goals as goal

pub returns-clause-here : goal.returns-clause-here
returns-clause-here c = flipped-here c.args.word c.args.lane c.from.result c.args.bit c.requires.in_range (search rules)

pub returns-clause-others : goal.returns-clause-others
returns-clause-others c = flipped-off c.args.word c.args.lane c.from.result c.args.bit c.requires.in_range (search rules)

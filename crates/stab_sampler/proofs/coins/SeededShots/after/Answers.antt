use Rattle.stab_sampler.proofs.Names.{rules}
use Rattle.stab_sampler.proofs.SeedLemmas.{coin-later}
use Rattle.stab_sampler.proofs.coins.SeededShots.after.Goals as goal

pub returns : goal.returns
returns c = record { value = λ l t. coin-later c.args.self.seed c.args.self.first c.args.self.count c.args.skipped l t _ _ (search rules) (search rules) }

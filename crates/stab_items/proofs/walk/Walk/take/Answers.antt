use Rattle.stab_items.proofs.WalkLemmas.{taken}
use Rattle.stab_items.proofs.walk.Walk.take.Goals as goal

pub returns-clause-taken : goal.returns-clause-taken
returns-clause-taken c = taken c.args.self.now c.args.item.now c.requires.walks c.requires.here.0 c.requires.here.1

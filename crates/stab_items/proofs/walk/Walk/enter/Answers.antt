use Rattle.stab_items.proofs.WalkLemmas.{entered, entered_left, entered_weight}
use Rattle.stab_items.proofs.walk.Walk.enter.Goals as goal

pub returns-clause-walks : goal.returns-clause-walks
returns-clause-walks c = entered c.args.self.now _ c.requires.walks c.push_reserved.ensures.items c.push_reserved.ensures.capacity c.requires.room

pub returns-clause-ahead : goal.returns-clause-ahead
returns-clause-ahead c = entered_left _ c.args.self.now.top c.args.self.now.around.items _ c.args.body c.args.more c.push_reserved.ensures.items

pub returns-clause-weight : goal.returns-clause-weight
returns-clause-weight c = entered_weight c.args.self.now.top c.args.self.now.around.items _ c.args.body c.args.more c.push_reserved.ensures.items

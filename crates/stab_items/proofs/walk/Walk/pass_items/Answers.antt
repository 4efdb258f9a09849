use Rattle.stab_items.proofs.PastItemLemmas.{items_passed}
use Rattle.stab_items.proofs.walk.Walk.pass_items.Goals as goal

pub returns-clause-left : goal.returns-clause-left
returns-clause-left c = items_passed c.args.self.now c.args.count c.requires.given

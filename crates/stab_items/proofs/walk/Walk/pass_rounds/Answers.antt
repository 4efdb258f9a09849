use Rattle.stab_items.proofs.Names.{listed}
use Rattle.stab_items.proofs.SkipLemmas.{jumps_in, jumps_past}
use Rattle.stab_items.proofs.walk.Walk.pass_rounds.Goals as goal

pub returns-then-skipped-rounds-clause-left : goal.returns-then-skipped-rounds-clause-left
returns-then-skipped-rounds-clause-left c =
    jumps_in c.args.self.now c.enter.new.self c.args.rounds _ c.args.steps c.args.count _ (listed c.args.body.now) c.requires.no_kind c.enter.ensures.same c.jump-skipped.ensures.within c.requires.stored c.jump-skipped.ensures.rest
    c.requires.few c.if-skipped-rounds.true c.enter.ensures.ahead

pub returns-else-skipped-rounds-clause-left : goal.returns-else-skipped-rounds-clause-left
returns-else-skipped-rounds-clause-left c =
    jumps_past c.args.self.now c.args.rounds _ c.args.steps c.args.count _ (listed c.args.body.now) c.requires.no_kind c.jump-skipped.ensures.within c.requires.stored c.jump-skipped.ensures.rest c.requires.few c.if-skipped-rounds.false

use Rattle.stab_items.proofs.Names.{steps_of}
use Rattle.stab_items.proofs.SkipLemmas.{passes_steps}
use Rattle.stab_items.proofs.walk.Walk.pass_steps.Goals as goal

pub returns-clause-left : goal.returns-clause-left
returns-clause-left c = passes_steps c.args.self.now (steps_of c.args.kind.now) c.step_count-steps.result c.args.count c.requires.no_kind c.step_count-steps.ensures.value c.if-count-steps.false

use Rattle.stab_items.proofs.Names.{refl, kind_steps, step_shown}
use Rattle.stab_items.proofs.StepPartLemmas.{none_given}
use Rattle.stab_items.proofs.WalkLemmas.{gives}
use Rattle.stab_items.proofs.walk.Walk.step.Goals as goal

pub returns-in_err-step-clause-none : goal.returns-in_err-step-clause-none
returns-in_err-step-clause-none c = rw c.from_residual.ensures (refl, none_given (kind_steps c.args.self.now.kind) c.args.self.now.within c.in_err-step.ensures.value)

pub returns-clause-some : goal.returns-clause-some
returns-clause-some c = gives c.args.self.now (step_shown c.in_ok-step.step) c.in_ok-step.ensures.value

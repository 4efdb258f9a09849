use Rattle.stab_items.proofs.Names.{sym, ap, subst, All, steps_shown, LooksWithin}
use Rattle.stab_items.proofs.LookLemmas.{near-gates, near-targets}
use Rattle.stab_items.proofs.window.furthest_of_steps.Goals as goal

pub returns-in-Gates-clause-within : goal.returns-in-Gates-clause-within
returns-in-Gates-clause-within c =
    subst (All (LooksWithin c.args.least)) (sym (ap steps_shown c.in-Gates.is)) (near-gates c.args.least c.in-Gates.field-0 c.in-Gates.field-1.now)

pub returns-in-Measurements-clause-within : goal.returns-in-Measurements-clause-within
returns-in-Measurements-clause-within c =
    subst (All (LooksWithin c.args.least)) (sym (ap steps_shown c.in-Measurements.is)) (near-targets c.args.least c.in-Measurements.field-0 c.in-Measurements.field-1.now)

pub returns-in-Pairs-clause-within : goal.returns-in-Pairs-clause-within
returns-in-Pairs-clause-within c =
    subst (All (LooksWithin c.furthest.result)) (sym (ap steps_shown c.in-Pairs.is)) (c.furthest.ensures.within c.in-Pairs.field-0)

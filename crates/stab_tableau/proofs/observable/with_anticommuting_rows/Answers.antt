use Rattle.stab_tableau.proofs.Names.{arith, ◌*◌, ◌+◌, ◌∙◌, OfX, OfZ}
use Rattle.stab_tableau.proofs.observable.with_anticommuting_rows.Goals as goal

pub with_if-mask-requires-clause-blank : goal.with_if-mask-requires-clause-blank
with_if-mask-requires-clause-blank c = c.requires.blank OfX

pub with_if-requires-clause-blank : goal.with_if-requires-clause-blank
with_if-requires-clause-blank c = c.with_if-mask.ensures.others (2 * c.args.k + 1) (omega arith) ∙ c.requires.blank OfZ

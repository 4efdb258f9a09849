use Rattle.stab_session.proofs.Names.{sym, ◌∙◌, replaced}
use Rattle.stab_session.proofs.PendingLemmas.{begun-replace}
use Rattle.stab_session.proofs.pending.replace.Goals as goal

pub unreachable-requires : goal.unreachable-requires
unreachable-requires c =
    let e = c.in-Ok-default-None.ensures {u = tt} in
    replaced c.args.place c.args.item c.args.circuit.now c.edit.new.self e.ok (sym e.taken ∙ c.in-Ok-default-None.field-0-1-is)

pub returns-in-Ok-default-Some-clause-begun : goal.returns-in-Ok-default-Some-clause-begun
returns-in-Ok-default-Some-clause-begun c =
    let e = c.in-Ok-default-Some.ensures {u = tt} in
    begun-replace c.args.n c.args.place c.args.circuit.now c.edit.new.self c.items.ensures.shallow c.requires.old_checked c.in-Ok-default-Some.span c.args.item c.in-Ok-default-Some.old e.ok e.allowed e.steps
    (sym e.taken ∙ c.in-Ok-default-Some.field-0-1-is)

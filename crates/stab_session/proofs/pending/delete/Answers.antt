use Rattle.stab_session.proofs.Names.{sym, ◌∙◌, subst, IsCallFault, replaced, verdict-instead}
use Rattle.stab_session.proofs.PendingLemmas.{begun-delete}
use Rattle.stab_session.proofs.pending.delete.Goals as goal

pub unreachable-requires : goal.unreachable-requires
unreachable-requires c =
    let e = c.in-Ok-default-None.ensures {u = tt} in
    replaced c.args.place c.tick-item.result c.args.circuit.now c.edit.new.self e.ok (sym e.taken ∙ c.in-Ok-default-None.field-0-1-is)

pub returns-in-Ok-default-Some-clause-begun : goal.returns-in-Ok-default-Some-clause-begun
returns-in-Ok-default-Some-clause-begun c =
    let e = c.in-Ok-default-Some.ensures {u = tt} in
    begun-delete c.args.n c.args.place c.args.circuit.now c.edit.new.self c.items.ensures.shallow c.requires.old_checked c.in-Ok-default-Some.span c.tick-item.result c.in-Ok-default-Some.old c.tick-item.ensures.nothing e.ok e.allowed e.steps
    (sym e.taken ∙ c.in-Ok-default-Some.field-0-1-is)

pub returns-in-Err-clause-refused : goal.returns-in-Err-clause-refused
returns-in-Err-clause-refused c =
    let e = c.in-Err.ensures {u = tt} in
    subst (λ v. IsCallFault v c.in-Err.refused.fault) (verdict-instead c.args.n c.tick-item.result c.tick-item.ensures.nothing c.args.place c.args.circuit.now) e.fault

use Rattle.stab_session.proofs.PendingLemmas.{begun-insert}
use Rattle.stab_session.proofs.pending.insert.Goals as goal

pub returns-in-Ok-clause-begun : goal.returns-in-Ok-clause-begun
returns-in-Ok-clause-begun c =
    let e = c.in-Ok.ensures {u = tt} in
    begun-insert c.args.n c.args.place c.args.circuit.now c.edit.new.self c.items.ensures.shallow c.requires.old_checked c.in-Ok.span c.args.item e.ok e.allowed e.steps

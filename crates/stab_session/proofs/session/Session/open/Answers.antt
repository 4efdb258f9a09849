use Rattle.stab_session.proofs.Names.{circuit_items}
use Rattle.stab_session.proofs.SessionLemmas.{statement, session-recorded, few-checkpoints}
use Rattle.stab_session.proofs.session.Session.open.Goals as goal

pub invariant_of-result : goal.invariant_of-result
invariant_of-result g c =
    let ran = c.in-Ok.ensures in (
      session-recorded g.C.Coins.sequence (circuit_items c.args.circuit) c.args.stride c.record_run.new.coins c.in-Ok.field-0.recording c.args.n (g.C.Coins.sequence c.args.coins) ran.same_coins ran.preserved
          ran.refused ran.distinct c.requires.in_range c.requires.stride_above c.requires.stride_within,
      ran.repeats,
    )

pub returns-in-Ok-clause-statement : goal.returns-in-Ok-clause-statement
returns-in-Ok-clause-statement g c =
    let ran = c.in-Ok.ensures in
    statement g.C.Coins.sequence (circuit_items c.args.circuit) c.args.stride c.record_run.new.coins c.in-Ok.field-0.recording c.args.n (g.C.Coins.sequence c.args.coins) ran.same_coins ran.preserved

pub returns-in-Ok-clause-checkpoints : goal.returns-in-Ok-clause-checkpoints
returns-in-Ok-clause-checkpoints g c =
    let ran = c.in-Ok.ensures in
    few-checkpoints g.C.Coins.sequence (circuit_items c.args.circuit) c.args.stride c.record_run.new.coins c.in-Ok.field-0.recording c.args.n (g.C.Coins.sequence c.args.coins) ran.same_coins ran.preserved
    c.requires.stride_above

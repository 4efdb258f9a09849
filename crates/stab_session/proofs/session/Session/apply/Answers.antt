use Rattle.stab_session.proofs.Names.{ap, sym, ◌∙◌, subst, ◌+◌, ◌-◌, ◌≤◌, arith, whole, IsCallFault, listed, unroll, observables_of, SessionState, checkpoint_steps, AreRepeats}
use Rattle.stab_session.proofs.SessionLemmas.{statement, few-checkpoints}
use Rattle.stab_session.proofs.EditedLemmas.{session-verdict, run-fault, followed, agreed, counted_same, few-steps, new-run, edited-recorded, edited-repeats, session-edited, edited-applied, edited-tried, edited-counted, edited-early, refused-asks}
use Rattle.stab_session.proofs.session.Session.apply.Goals as goal

pub returns-in-Ok-follow-clause-applied : goal.returns-in-Ok-follow-clause-applied
returns-in-Ok-follow-clause-applied g c =
    let begun = c.in-Ok.ensures {u = tt} in
    let ran = c.in-Ok-follow.ensures {u = tt} in
    let coins = ap (λ (s : SessionState g.row.C.Denot). g.C.Coins.sequence s.coins) c.self.view_is in
    let run = followed c.len-n.result c.self.inside.recording.tableau.qubits _ _ c.self.inside.stride _ _ c.follow.new.self c.len-n.ensures.value coins ran.followed.preserved in
    edited-applied g.C.Coins.sequence c.args.edit c.args.self.now c.len-n.result c.self.inside.circuit c.begin.new.circuit c.in-Ok.begun.0 c.in-Ok.begun.1 begun.begun
    (ap (λ (s : SessionState g.row.C.Denot). s.items) (sym c.self.view_is))
    (ap (λ (s : SessionState g.row.C.Denot). s.qubits) (sym c.self.view_is) ∙ sym c.len-n.ensures.value)
    c.finish.new.circuit c.finish.ensures.value c.self.inside.stride c.follow.new.coins c.follow.new.self
    (ap (λ (s : SessionState g.row.C.Denot). s.stride) c.self.view_is) (ran.same_coins ∙ coins) run
    c.in-Ok-follow.followed.applied (omega (arith, ran.followed.way.most))

pub returns-in-Ok-follow-clause-asks : goal.returns-in-Ok-follow-clause-asks
returns-in-Ok-follow-clause-asks g c =
    let ran = c.in-Ok-follow.ensures {u = tt} in
    omega (arith, ran.followed.asks, ap (λ (s : SessionState g.row.C.Denot). g.C.Coins.asks s.coins) c.self.view_is)

pub returns-in-Err-clause-refused : goal.returns-in-Err-clause-refused
returns-in-Err-clause-refused g c =
    let refused = c.in-Err.ensures {u = tt} in
    subst (λ v. IsCallFault v c.in-Err.refused.fault)
    (session-verdict c.args.self.now c.args.edit c.len-n.result c.self.inside.circuit
    (ap (λ (s : SessionState g.row.C.Denot). s.items) (sym c.self.view_is))
    (ap (λ (s : SessionState g.row.C.Denot). s.qubits) (sym c.self.view_is) ∙ sym c.len-n.ensures.value))
    refused.refused

pub invariant_of-self-in-Ok-follow : goal.invariant_of-self-in-Ok-follow
invariant_of-self-in-Ok-follow g c =
    let begun = c.in-Ok.ensures {u = tt} in
    let ran = c.in-Ok-follow.ensures {u = tt} in
    let coins = ap (λ (s : SessionState g.row.C.Denot). g.C.Coins.sequence s.coins) c.self.view_is in
    let run = followed c.len-n.result c.self.inside.recording.tableau.qubits _ _ c.self.inside.stride _ _ c.follow.new.self c.len-n.ensures.value coins ran.followed.preserved in
    let recorded = c.self.invariant.0 in (
      edited-recorded g.C.Coins.sequence c.args.edit c.args.self.now c.len-n.result c.self.inside.circuit c.begin.new.circuit c.in-Ok.begun.0 c.in-Ok.begun.1 begun.begun
          (ap (λ (s : SessionState g.row.C.Denot). s.items) (sym c.self.view_is))
          (ap (λ (s : SessionState g.row.C.Denot). s.qubits) (sym c.self.view_is) ∙ sym c.len-n.ensures.value)
          c.finish.new.circuit c.finish.ensures.value c.self.inside.stride c.follow.new.coins c.follow.new.self
          (ap (λ (s : SessionState g.row.C.Denot). s.stride) c.self.view_is) (ran.same_coins ∙ coins) run
          ran.followed.distinct (subst (λ n. n ≤ 1024) (sym c.len-n.ensures.value) recorded.few) recorded.stride_above recorded.stride_within,
      edited-repeats g.C.Coins.sequence c.args.edit c.args.self.now c.len-n.result c.self.inside.circuit c.begin.new.circuit c.in-Ok.begun.0 c.in-Ok.begun.1 begun.begun
          (ap (λ (s : SessionState g.row.C.Denot). s.items) (sym c.self.view_is))
          (ap (λ (s : SessionState g.row.C.Denot). s.qubits) (sym c.self.view_is) ∙ sym c.len-n.ensures.value)
          c.finish.new.circuit c.finish.ensures.value c.self.inside.stride c.follow.new.coins c.follow.new.self
          (ap (λ (s : SessionState g.row.C.Denot). s.stride) c.self.view_is) (ran.same_coins ∙ coins) run
          c.in-Ok-change_of.change.rounds.items (c.in-Ok-change_of.ensures {u = tt}).rounds,
    )

pub returns-in-Ok-follow-clause-statement : goal.returns-in-Ok-follow-clause-statement
returns-in-Ok-follow-clause-statement g c =
    let begun = c.in-Ok.ensures {u = tt} in
    let ran = c.in-Ok-follow.ensures {u = tt} in
    let coins = ap (λ (s : SessionState g.row.C.Denot). g.C.Coins.sequence s.coins) c.self.view_is in
    let run = followed c.len-n.result c.self.inside.recording.tableau.qubits _ _ c.self.inside.stride _ _ c.follow.new.self c.len-n.ensures.value coins ran.followed.preserved in
    statement g.C.Coins.sequence (listed c.finish.new.circuit) c.self.inside.stride c.follow.new.coins c.follow.new.self c.len-n.result (g.C.Coins.sequence c.args.self.now.coins) (ran.same_coins ∙ coins)
    (new-run g.C.Coins.sequence c.args.edit c.args.self.now c.len-n.result c.self.inside.circuit c.begin.new.circuit c.in-Ok.begun.0 c.in-Ok.begun.1 begun.begun
    (ap (λ (s : SessionState g.row.C.Denot). s.items) (sym c.self.view_is))
    (ap (λ (s : SessionState g.row.C.Denot). s.qubits) (sym c.self.view_is) ∙ sym c.len-n.ensures.value)
    c.finish.new.circuit c.finish.ensures.value c.self.inside.stride c.follow.new.coins c.follow.new.self
    (ap (λ (s : SessionState g.row.C.Denot). s.stride) c.self.view_is) (ran.same_coins ∙ coins) run)

pub returns-in-Ok-follow-clause-edited : goal.returns-in-Ok-follow-clause-edited
returns-in-Ok-follow-clause-edited g c =
    let begun = c.in-Ok.ensures {u = tt} in
    let ran = c.in-Ok-follow.ensures {u = tt} in
    let coins = ap (λ (s : SessionState g.row.C.Denot). g.C.Coins.sequence s.coins) c.self.view_is in
    let run = followed c.len-n.result c.self.inside.recording.tableau.qubits _ _ c.self.inside.stride _ _ c.follow.new.self c.len-n.ensures.value coins ran.followed.preserved in
    session-edited g.C.Coins.sequence c.args.edit c.args.self.now c.len-n.result c.self.inside.circuit c.begin.new.circuit c.in-Ok.begun.0 c.in-Ok.begun.1 begun.begun
    (ap (λ (s : SessionState g.row.C.Denot). s.items) (sym c.self.view_is))
    (ap (λ (s : SessionState g.row.C.Denot). s.qubits) (sym c.self.view_is) ∙ sym c.len-n.ensures.value)
    c.finish.new.circuit c.finish.ensures.value c.self.inside.stride c.follow.new.coins c.follow.new.self
    (ap (λ (s : SessionState g.row.C.Denot). s.stride) c.self.view_is) (ran.same_coins ∙ coins) run

pub overflow_add-result : goal.overflow_add-result
overflow_add-result g c =
    let begun = c.in-Ok.ensures {u = tt} in
    let ran = c.in-Ok-follow.ensures {u = tt} in
    let few =
    few-steps g.C.Coins.sequence c.args.edit c.args.self.now c.len-n.result c.self.inside.circuit c.begin.new.circuit c.in-Ok.begun.0 c.in-Ok.begun.1 begun.begun
    (ap (λ (s : SessionState g.row.C.Denot). s.items) (sym c.self.view_is))
    (ap (λ (s : SessionState g.row.C.Denot). s.qubits) (sym c.self.view_is) ∙ sym c.len-n.ensures.value) in
    omega (arith, few, ran.followed.way.most, ran.followed.tried, c.self.invariant.0.stride_within)

pub returns-in-Ok-follow-clause-by_frame : goal.returns-in-Ok-follow-clause-by_frame
returns-in-Ok-follow-clause-by_frame g c =
    let begun = c.in-Ok.ensures {u = tt} in
    let ran = c.in-Ok-follow.ensures {u = tt} in
    let coins = ap (λ (s : SessionState g.row.C.Denot). g.C.Coins.sequence s.coins) c.self.view_is in
    let run = followed c.len-n.result c.self.inside.recording.tableau.qubits _ _ c.self.inside.stride _ _ c.follow.new.self c.len-n.ensures.value coins ran.followed.preserved in
    let le =
    edited-applied g.C.Coins.sequence c.args.edit c.args.self.now c.len-n.result c.self.inside.circuit c.begin.new.circuit c.in-Ok.begun.0 c.in-Ok.begun.1 begun.begun
    (ap (λ (s : SessionState g.row.C.Denot). s.items) (sym c.self.view_is))
    (ap (λ (s : SessionState g.row.C.Denot). s.qubits) (sym c.self.view_is) ∙ sym c.len-n.ensures.value)
    c.finish.new.circuit c.finish.ensures.value c.self.inside.stride c.follow.new.coins c.follow.new.self
    (ap (λ (s : SessionState g.row.C.Denot). s.stride) c.self.view_is) (ran.same_coins ∙ coins) run
    (c.in-Ok-follow.followed.applied + c.in-Ok-follow.followed.by_frame) ran.followed.way.most in
    omega (arith, le)

pub returns-in-Ok-follow-clause-tried : goal.returns-in-Ok-follow-clause-tried
returns-in-Ok-follow-clause-tried g c =
    let begun = c.in-Ok.ensures {u = tt} in
    let ran = c.in-Ok-follow.ensures {u = tt} in
    let coins = ap (λ (s : SessionState g.row.C.Denot). g.C.Coins.sequence s.coins) c.self.view_is in
    let run = followed c.len-n.result c.self.inside.recording.tableau.qubits _ _ c.self.inside.stride _ _ c.follow.new.self c.len-n.ensures.value coins ran.followed.preserved in
    edited-tried g.C.Coins.sequence c.args.edit c.args.self.now c.len-n.result c.self.inside.circuit c.begin.new.circuit c.in-Ok.begun.0 c.in-Ok.begun.1 begun.begun
    (ap (λ (s : SessionState g.row.C.Denot). s.items) (sym c.self.view_is))
    (ap (λ (s : SessionState g.row.C.Denot). s.qubits) (sym c.self.view_is) ∙ sym c.len-n.ensures.value)
    c.finish.new.circuit c.finish.ensures.value c.self.inside.stride c.follow.new.coins c.follow.new.self
    (ap (λ (s : SessionState g.row.C.Denot). s.stride) c.self.view_is) (ran.same_coins ∙ coins) run
    c.in-Ok-follow.followed.tried ran.followed.tried

pub returns-in-Ok-follow-clause-counted : goal.returns-in-Ok-follow-clause-counted
returns-in-Ok-follow-clause-counted g c =
    let begun = c.in-Ok.ensures {u = tt} in
    let ran = c.in-Ok-follow.ensures {u = tt} in
    let coins = ap (λ (s : SessionState g.row.C.Denot). g.C.Coins.sequence s.coins) c.self.view_is in
    let run = followed c.len-n.result c.self.inside.recording.tableau.qubits _ _ c.self.inside.stride _ _ c.follow.new.self c.len-n.ensures.value coins ran.followed.preserved in
    edited-counted g.C.Coins.sequence c.args.edit c.args.self.now c.len-n.result c.self.inside.circuit c.begin.new.circuit c.in-Ok.begun.0 c.in-Ok.begun.1 begun.begun
    (ap (λ (s : SessionState g.row.C.Denot). s.items) (sym c.self.view_is))
    (ap (λ (s : SessionState g.row.C.Denot). s.qubits) (sym c.self.view_is) ∙ sym c.len-n.ensures.value)
    c.finish.new.circuit c.finish.ensures.value c.self.inside.stride c.follow.new.coins c.follow.new.self
    (ap (λ (s : SessionState g.row.C.Denot). s.stride) c.self.view_is) (ran.same_coins ∙ coins) run
    (c.in-Ok-follow.followed.applied + c.in-Ok-follow.followed.by_frame)
    (c.in-Ok-follow.followed.applied + ((c.in-Ok-follow.followed.by_frame + c.in-Ok-follow.followed.tried) - c.in-Ok-follow.followed.tried))
    (checkpoint_steps c.self.inside.recording.checkpoints.items) (omega arith) (ap (λ (s : SessionState g.row.C.Denot). s.checkpoints) c.self.view_is)
    (counted_same c.len-n.result c.self.inside.recording.tableau.qubits _ _ (unroll (listed c.self.inside.circuit)) (unroll (listed c.begin.new.circuit)) c.in-Ok.begun.1 _ _ _ c.len-n.ensures.value coins
    (ran.followed.way.counted (unroll (listed c.self.inside.circuit)) (observables_of (listed c.self.inside.circuit)) c.self.invariant.0.run begun.begun.span.span))

pub returns-in-Ok-follow-clause-early : goal.returns-in-Ok-follow-clause-early
returns-in-Ok-follow-clause-early g c =
    let begun = c.in-Ok.ensures {u = tt} in
    let ran = c.in-Ok-follow.ensures {u = tt} in
    let coins = ap (λ (s : SessionState g.row.C.Denot). g.C.Coins.sequence s.coins) c.self.view_is in
    let run = followed c.len-n.result c.self.inside.recording.tableau.qubits _ _ c.self.inside.stride _ _ c.follow.new.self c.len-n.ensures.value coins ran.followed.preserved in
    λ far.
    edited-early g.C.Coins.sequence c.args.edit c.args.self.now c.len-n.result c.self.inside.circuit c.begin.new.circuit c.in-Ok.begun.0 c.in-Ok.begun.1 begun.begun
    (ap (λ (s : SessionState g.row.C.Denot). s.items) (sym c.self.view_is))
    (ap (λ (s : SessionState g.row.C.Denot). s.qubits) (sym c.self.view_is) ∙ sym c.len-n.ensures.value)
    c.finish.new.circuit c.finish.ensures.value c.self.inside.stride c.follow.new.coins c.follow.new.self
    (ap (λ (s : SessionState g.row.C.Denot). s.stride) c.self.view_is) (ran.same_coins ∙ coins) run
    (c.in-Ok-follow.followed.applied + ((c.in-Ok-follow.followed.by_frame + c.in-Ok-follow.followed.tried) - c.in-Ok-follow.followed.tried)) far
    (λ agree.
    omega (
      arith,
      ran.followed.way.few (unroll (listed c.self.inside.circuit)) (observables_of (listed c.self.inside.circuit)) far c.self.invariant.0.run begun.begun.span.span
          (agreed c.len-n.result c.self.inside.recording.tableau.qubits _ _ (unroll (listed c.self.inside.circuit)) (unroll (listed c.begin.new.circuit)) c.in-Ok.begun.1 far c.len-n.ensures.value coins agree),
    ))

pub returns-in-Ok-follow-clause-few_checkpoints : goal.returns-in-Ok-follow-clause-few_checkpoints
returns-in-Ok-follow-clause-few_checkpoints g c =
    let begun = c.in-Ok.ensures {u = tt} in
    let ran = c.in-Ok-follow.ensures {u = tt} in
    let coins = ap (λ (s : SessionState g.row.C.Denot). g.C.Coins.sequence s.coins) c.self.view_is in
    let run = followed c.len-n.result c.self.inside.recording.tableau.qubits _ _ c.self.inside.stride _ _ c.follow.new.self c.len-n.ensures.value coins ran.followed.preserved in
    few-checkpoints g.C.Coins.sequence (listed c.finish.new.circuit) c.self.inside.stride c.follow.new.coins c.follow.new.self c.len-n.result (g.C.Coins.sequence c.args.self.now.coins) (ran.same_coins ∙ coins)
    (new-run g.C.Coins.sequence c.args.edit c.args.self.now c.len-n.result c.self.inside.circuit c.begin.new.circuit c.in-Ok.begun.0 c.in-Ok.begun.1 begun.begun
    (ap (λ (s : SessionState g.row.C.Denot). s.items) (sym c.self.view_is))
    (ap (λ (s : SessionState g.row.C.Denot). s.qubits) (sym c.self.view_is) ∙ sym c.len-n.ensures.value)
    c.finish.new.circuit c.finish.ensures.value c.self.inside.stride c.follow.new.coins c.follow.new.self
    (ap (λ (s : SessionState g.row.C.Denot). s.stride) c.self.view_is) (ran.same_coins ∙ coins) run)
    c.self.invariant.0.stride_above

pub returns-in-Err-change_of-clause-refused : goal.returns-in-Err-change_of-clause-refused
returns-in-Err-change_of-clause-refused g c =
    let begun = c.in-Ok.ensures {u = tt} in
    let reported = c.in-Err-change_of.ensures {u = tt} in
    run-fault g.C.Coins.sequence c.args.edit c.args.self.now c.len-n.result c.self.inside.circuit c.begin.new.circuit c.in-Ok.begun.0 c.in-Ok.begun.1 begun.begun
    (ap (λ (s : SessionState g.row.C.Denot). s.items) (sym c.self.view_is))
    (ap (λ (s : SessionState g.row.C.Denot). s.qubits) (sym c.self.view_is) ∙ sym c.len-n.ensures.value)
    c.refused.result.fault (c.refused.ensures.fault ∙ ap whole reported.err)

pub returns-in-Err-follow-clause-refused : goal.returns-in-Err-follow-clause-refused
returns-in-Err-follow-clause-refused g c =
    let begun = c.in-Ok.ensures {u = tt} in
    let ran = c.in-Err-follow.ensures {u = tt} in
    run-fault g.C.Coins.sequence c.args.edit c.args.self.now c.len-n.result c.self.inside.circuit c.begin.new.circuit c.in-Ok.begun.0 c.in-Ok.begun.1 begun.begun
    (ap (λ (s : SessionState g.row.C.Denot). s.items) (sym c.self.view_is))
    (ap (λ (s : SessionState g.row.C.Denot). s.qubits) (sym c.self.view_is) ∙ sym c.len-n.ensures.value)
    c.refused-in-Err-follow.result.fault (c.refused-in-Err-follow.ensures.fault ∙ ap whole ran.err)

pub returns-in-Err-follow-clause-refused_asks : goal.returns-in-Err-follow-clause-refused_asks
returns-in-Err-follow-clause-refused_asks g c =
    let begun = c.in-Ok.ensures {u = tt} in
    let asks = ap (λ (s : SessionState g.row.C.Denot). g.C.Coins.asks s.coins) c.self.view_is in
    omega (
      arith,
      asks,
      refused-asks g.C.Coins.sequence c.args.edit c.args.self.now c.len-n.result c.self.inside.circuit c.begin.new.circuit c.in-Ok.begun.0 c.in-Ok.begun.1 begun.begun
          (ap (λ (s : SessionState g.row.C.Denot). s.items) (sym c.self.view_is))
          (ap (λ (s : SessionState g.row.C.Denot). s.qubits) (sym c.self.view_is) ∙ sym c.len-n.ensures.value)
          c.self.inside.stride _ _ (ap (λ (s : SessionState g.row.C.Denot). s.stride) c.self.view_is) c.follow.ensures.asked.near,
    )

pub returns-in-Err-follow-clause-item : goal.returns-in-Err-follow-clause-item
returns-in-Err-follow-clause-item g c =
    let begun = c.in-Ok.ensures {u = tt} in
    c.refused-in-Err-follow.ensures.item ∙ begun.begun.item

pub change_of-requires-clause-old : goal.change_of-requires-clause-old
change_of-requires-clause-old g c =
    let begun = c.in-Ok.ensures {u = tt} in (
      unroll (listed c.self.inside.circuit),
      subst (AreRepeats 0 (unroll (listed c.self.inside.circuit))) (sym c.as_slice.ensures.value) c.self.invariant.1,
      (c.self.invariant.0.run.few, begun.begun.span.span),
    )

use Rattle.stab_recording.proofs.Names.{◌≡◌, sym, ◌∙◌, subst, true, arith, last_state, with_state}
use Rattle.stab_recording.proofs.PropagatedWayLemmas.{last-read}
use Rattle.stab_recording.proofs.replay.Replay.catch_up.Goals as goal

pub returns-in_ok-self-clause-state : goal.returns-in_ok-self-clause-state
returns-in_ok-self-clause-state c =
    let passed : c.args.passed ≡ true = grind (arith, c.if-not-passed.false) in
    let item = c.in-Some.ensures.item in
    let state : c.in_ok-self.field-0 ≡ last_state c.args.self.now.tableau c.args.self.now.saved.items = c.in_ok-self.ensures.ok
    ∙ sym (subst (λ cs. last_state c.args.self.now.tableau cs ≡ c.in-Some.checkpoint.now.tableau) c.deref.ensures.value
    (last-read c.args.self.now.tableau c.deref.result.now c.in-Some.checkpoint.now item.3.0 item.1)) in
    subst (λ b. record c.args.self.now { tableau = c.in_ok-self.field-0 } ≡ with_state b c.args.self.now) (sym passed) (λ i. record c.args.self.now { tableau = state i })

use Rattle.stab_session.proofs.Names.{ap, sym, ◌∙◌, subst, IfErr, on_ok_weaker, IsCallFault, entries, split_refusal, entries-listed, SessionState}
use Rattle.stab_session.proofs.SplitLemmas.{still-recorded, still-repeats, session-split}
use Rattle.stab_session.proofs.session.Session.split.Goals as goal

pub invariant_of-self : goal.invariant_of-self
invariant_of-self g c = (
  still-recorded g.C.Coins.sequence c.self.inside.stride c.self.inside.coins c.self.inside.recording c.split.result c.args.path c.args.round c.self.inside.circuit c.split.new.self c.splits_leave_the_steps.ensures.law
      c.split.ensures.ok c.split.ensures.unchanged c.self.invariant.0,
  still-repeats c.split.result c.args.path c.args.round c.self.inside.circuit c.split.new.self c.self.inside.rounds.items c.splits_leave_the_steps.ensures.law
      c.split.ensures.ok c.split.ensures.unchanged c.self.invariant.1,
)

pub returns-clause-statement : goal.returns-clause-statement
returns-clause-statement g c =
    (still-recorded g.C.Coins.sequence c.self.inside.stride c.self.inside.coins c.self.inside.recording c.split.result c.args.path c.args.round c.self.inside.circuit c.split.new.self c.splits_leave_the_steps.ensures.law
    c.split.ensures.ok c.split.ensures.unchanged c.self.invariant.0).statement

pub returns-clause-split : goal.returns-clause-split
returns-clause-split g c =
    on_ok_weaker c.split.result
    (session-split g.C.Coins.sequence c.self.inside.stride c.self.inside.coins c.self.inside.recording c.args.path c.args.round c.self.inside.circuit c.split.new.self c.args.self.now c.self.view_is) c.split.ensures.ok

pub returns-clause-refused : goal.returns-clause-refused
returns-clause-refused g c =
    subst (λ xs. IfErr c.split.result (λ f. IsCallFault (split_refusal c.args.path c.args.round xs) f))
    (sym (entries-listed c.self.inside.circuit) ∙ ap (λ (s : SessionState g.row.C.Denot). entries s.items) c.self.view_is) c.split.ensures.fault

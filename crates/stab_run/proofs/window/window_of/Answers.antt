use Rattle.stab_run.proofs.Names.{◌≡◌, ◌+◌, ◌++◌, ◌∙◌, sym, ap, subst, All, take, drop, arith, All-append, steps_shown, LooksWithin, within-more}
use Rattle.stab_run.proofs.AlikeLemmas.{goes-following, goes-before, nothing-left}
use Rattle.stab_run.proofs.window.window_of.Goals as goal

pub looking-preserved : goal.looking-preserved
looking-preserved c =
    let inv = c.looking.invariant in
    let left = c.args.cursor.now.left in
    let part = steps_shown c.in-Some.steps in
    let e : drop c.looking.done left ≡ part ++ c.next_steps.new.self.left = sym inv.left ∙ c.in-Some.ensures.some in
    let far = c.furthest_of_steps-window.result in
    record {
      few = omega (arith, c.in-Some.ensures.within.1, c.len-done.ensures.value, inv.few);
      left = goes-following c.looking.done left part c.next_steps.new.self.left e ∙ ap (λ n. drop (c.looking.done + n) left) (sym c.len-done.ensures.value);
      within =
          subst (All (LooksWithin far))
          (sym (goes-before c.looking.done left part c.next_steps.new.self.left e) ∙ ap (λ n. take (c.looking.done + n) left) (sym c.len-done.ensures.value))
          (All-append (LooksWithin far) (take c.looking.done left) part
          (within-more c.looking.window far (take c.looking.done left) c.furthest_of_steps-window.ensures.more inv.within) c.furthest_of_steps-window.ensures.within);
    }

pub returns-in_default : goal.returns-in_default
returns-in_default c = record {
  within = subst (All (LooksWithin c.looking.window))
      (nothing-left c.looking.done c.args.count c.args.cursor.now.left (sym c.looking.invariant.left ∙ c.in_default.ensures.none.0) c.looking.invariant.few)
      c.looking.invariant.within;
}

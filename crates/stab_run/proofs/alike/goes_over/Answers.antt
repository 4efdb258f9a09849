use Rattle.stab_run.proofs.Names.{◌+◌, ◌++◌, ◌∙◌, sym, ap, take, arith, OnTrue_at, take_all, steps_shown}
use Rattle.stab_run.proofs.AlikeLemmas.{goes-over}
use Rattle.stab_run.proofs.alike.goes_over.Goals as goal

pub going-preserved : goal.going-preserved
going-preserved c =
    let inv = c.going.invariant in
    let whole = steps_shown c.args.steps in
    let part = steps_shown c.in-Some.next in
    record {
      all = c.in-Some.ensures.all ∙ inv.all;
      few = omega (arith, c.in-Some.ensures.within.1, c.len-done.ensures.value, inv.few);
      same =
          inv.same
          ∙ goes-over c.going.done whole part c.next_steps.new.self.left c.going.cursor.left (OnTrue_at c.if-not-begin_with.false c.begin_with.ensures.same) c.in-Some.ensures.some
          ∙ ap (λ n. take (c.going.done + n) whole ++ c.next_steps.new.self.left) (sym c.len-done.ensures.value);
    }

pub returns-clause-same : goal.returns-clause-same
returns-clause-same c =
    c.going.invariant.same
    ∙ ap (λ l. l ++ c.going.cursor.left) (take_all c.going.done (steps_shown c.args.steps) (omega (arith, c.going-test.false, c.len.ensures.value)))

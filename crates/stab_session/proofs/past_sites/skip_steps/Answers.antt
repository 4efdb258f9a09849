use Rattle.stab_session.proofs.Names.{sym, ◌∙◌, ap, length, arith, length-append, steps_shown, drop-none}
use Rattle.stab_session.proofs.LengthLemmas.{drop-next}
use Rattle.stab_session.proofs.past_sites.skip_steps.Goals as goal

pub loop-left-preserved : goal.loop-left-preserved
loop-left-preserved c =
    let inv = c.loop-left.invariant in
    let shown = steps_shown c.in-Some.steps in
    let rest = c.next_steps.new.self.left in
    let is = c.in-Some.ensures.some in
    let le = c.in-Some.ensures.within.1 in
    let counted = c.len-left.ensures.value in
    record {
      all = c.next_steps.ensures.all ∙ inv.all;
      left = drop-next c.loop-left.left c.len-left.result c.loop-left.cursor.left shown rest is counted le ∙ inv.left;
      within = let w = inv.within in omega (arith, w);
      gone = omega (arith, inv.gone, ap length is, length-append shown rest, counted, le);
    }

pub returns : goal.returns
returns c =
    let inv = c.loop-left.invariant in
    record {
      all = inv.all;
      within = λ e. omega (arith, inv.gone, c.loop-left-test.false);
      left = λ e. sym (drop-none c.loop-left.left c.loop-left.cursor.left c.loop-left-test.false) ∙ inv.left;
    }

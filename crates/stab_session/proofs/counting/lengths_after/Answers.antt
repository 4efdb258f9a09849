use Rattle.stab_session.proofs.Names.{◌^◌, sym, ◌∙◌, false, steps_shown, take-empty, drop-empty, take-none, drop-none, origin}
use Rattle.stab_session.proofs.LengthLemmas.{below-next, below-rest, drop-next, longer-next, longer-none}
use Rattle.stab_session.proofs.counting.lengths_after.Goals as goal

pub returns-in_default : goal.returns-in_default
returns-in_default c = record {
  all = c.next_steps.ensures.all ∙ c.loop-left.invariant.all;
  left =
      c.in_default.ensures.none.1
      ∙ sym (drop-empty c.loop-left.left c.loop-left.cursor.left c.in_default.ensures.none.0)
      ∙ c.loop-left.invariant.left;
  value = λ n coins a. longer-none n coins _ a c.loop-left.lengths (take-empty c.loop-left.left c.loop-left.cursor.left c.in_default.ensures.none.0) ∙ c.loop-left.invariant.value n coins a;
}

pub lengths_with-lengths-requires : goal.lengths_with-lengths-requires
lengths_with-lengths-requires c = record {
  few = below-next (2 ^ 63) c.loop-left.cursor.left (steps_shown c.in-Some.steps) c.next_steps.new.self.left c.loop-left.lengths c.in-Some.ensures.some c.loop-left.invariant.few;
}

pub loop-left-preserved : goal.loop-left-preserved
loop-left-preserved c =
    let inv = c.loop-left.invariant in
    let most = c.loop-left.left in
    let xs = c.loop-left.cursor.left in
    let ys = steps_shown c.in-Some.steps in
    let rest = c.next_steps.new.self.left in
    let is = c.in-Some.ensures.some in
    let le = c.in-Some.ensures.within.1 in
    let counted = c.len-left.ensures.value in
    let then = c.lengths_with-lengths.ensures.value in
    record {
      all = c.next_steps.ensures.all ∙ inv.all;
      left = drop-next most c.len-left.result xs ys rest is counted le ∙ inv.left;
      few = below-rest (2 ^ 63) 0 (λ _. false) xs ys rest origin c.loop-left.lengths c.lengths_with-lengths.result is (then 0 (λ _. false) origin) inv.few;
      value = λ n coins a.
          longer-next n coins most c.len-left.result xs ys rest a c.loop-left.lengths c.lengths_with-lengths.result is counted le (then n coins a) ∙ inv.value n coins a;
    }

pub returns : goal.returns
returns c = record {
  all = c.loop-left.invariant.all;
  left = sym (drop-none c.loop-left.left c.loop-left.cursor.left c.loop-left-test.false) ∙ c.loop-left.invariant.left;
  value = λ n coins a. longer-none n coins _ a c.loop-left.lengths (take-none c.loop-left.left c.loop-left.cursor.left c.loop-left-test.false) ∙ c.loop-left.invariant.value n coins a;
}

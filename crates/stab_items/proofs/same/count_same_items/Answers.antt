use Rattle.stab_items.proofs.Names.{◌<◌, ◌++◌, ◌∙◌, sym, ap, length, take, arith, length-append, listed, before, done, unroll}
use Rattle.stab_items.proofs.PastItemLemmas.{steps_more}
use Rattle.stab_items.proofs.same.count_same_items.Goals as goal

pub loop-position-preserved : goal.loop-position-preserved
loop-position-preserved c =
    let xs = c.args.items.now in
    let ys = c.args.others.now in
    let i = c.loop-position.position in
    let x = c.index-items-position.result in
    let y = c.index-others-position.result in
    let lt : i < length xs = omega (arith, c.loop-position-test.true, c.min-most.ensures) in
    let left : i < length ys = omega (arith, c.loop-position-test.true, c.min-most.ensures) in
    let more = steps_more xs i x lt c.index-items-position.is in
    record {
      same = more
          ∙ ap (λ l. l ++ unroll (before x done)) c.loop-position.invariant.same
          ∙ ap (λ l. unroll (listed (take i ys)) ++ l) c.in-Some.ensures.same
          ∙ sym (steps_more ys i y left c.index-others-position.is);
      steps = omega (arith, c.in-Some.ensures.count, c.loop-position.invariant.steps, ap length more, length-append (unroll (listed (take i xs))) (unroll (before x done)));
    }

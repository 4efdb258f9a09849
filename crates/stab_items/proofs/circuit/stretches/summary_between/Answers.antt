use Rattle.stab_items.proofs.Names.{◌≡◌, refl, ◌+◌, ◌++◌, ◌∙◌, ap, sym, subst, max, arith, drop, take, drop-drop, length-drop, AreStretches}
use Rattle.stab_items.proofs.StretchLemmas.{stretch_here, sum_is, sum_joined, sum_further, sum_in_front, from_joined}
use Rattle.stab_items.proofs.circuit.stretches.summary_between.Goals as goal

pub summary_within-requires-clause-sum : goal.summary_within-requires-clause-sum
summary_within-requires-clause-sum c =
    let xs = c.args.items.now in
    let s = c.stretch_at-stretch.result in
    let here = stretch_here c.args.stretches.now c.stretches.number s (drop c.stretches.position xs) c.stretches-test.true c.stretch_at-stretch.ensures.value c.stretches.invariant.are in
    sum_in_front xs c.items_up_to-front.result.now c.args.end c.stretches.position s.items s.summary c.items_up_to-front.ensures.value here.1

pub stretches-preserved : goal.stretches-preserved
stretches-preserved c =
    let xs = c.args.items.now in
    let s = c.stretch_at-stretch.result in
    let at = c.stretches.invariant in
    let here = stretch_here c.args.stretches.now c.stretches.number s (drop c.stretches.position xs) c.stretches-test.true c.stretch_at-stretch.ensures.value at.are in
    record {
      within = omega (arith, here.0, length-drop c.stretches.position xs, at.within);
      are = subst (λ l. AreStretches (drop (c.stretches.number + 1) c.args.stretches.now) l) (drop-drop s.items c.stretches.position xs) here.2;
      sum =
          sum_further c.items_up_to-front.result.now c.args.first c.stretches.position s.items c.stretches.all c.summary_within.result c.then-all.result at.sum c.summary_within.ensures.sum c.then-all.ensures.value
          c.then-all.ensures.small;
    }

pub returns : goal.returns
returns c =
    let front = c.items_up_to-front.result.now in
    let rest = c.items_from.result.now in
    let position = c.stretches.position in
    let last = c.items_summary in
    let before = drop c.args.first (take position front) in
    let following : rest ≡ drop (max c.args.first position) front = c.items_from.ensures.value ∙ ap (λ n. drop n front) c.max.ensures in
    let whole : drop c.args.first (take c.args.end c.args.items.now) ≡ before ++ rest =
    ap (drop c.args.first) (sym c.items_up_to-front.ensures.value) ∙ from_joined c.args.first position front ∙ ap (λ l. before ++ l) (sym following) in
    let more = sum_is rest rest last.result refl last.ensures.value last.ensures.small last.ensures.good in
    record {
      sum = sum_joined (drop c.args.first (take c.args.end c.args.items.now)) before rest c.stretches.all last.result c.then.result whole c.stretches.invariant.sum more c.then.ensures.value c.then.ensures.small;
    }

use Rattle.stab_items.proofs.Names.{◌≡◌, ◌<◌, ap, sym, subst, ◌∙◌, arith, get_or, length, drop, slice_set, AreStretches}
use Rattle.stab_items.proofs.StretchLemmas.{items_next, end_within, stays_after, renewed_at}
use Rattle.stab_items.proofs.circuit.stretches.renew_stretch.Goals as goal

pub overflow_add-end : goal.overflow_add-end
overflow_add-end c =
    let ss = c.args.stretches.now.items in
    let s = c.index-stretch.result.now in
    let at = c.stretches.invariant in
    let there : c.stretches.number < length ss = omega (arith, c.stretches-test.true, c.len-number-end.ensures) in
    let here : s ≡ get_or ss c.stretches.number s = c.index-stretch.ensures ∙ ap (λ l. get_or l c.stretches.number s) at.preserved in
    omega (arith, c.ranges.len.fits, end_within ss c.stretches.number c.args.position c.args.len c.stretches.first s c.args.items.now c.requires.were there here at.first)

pub overflow_sub-len : goal.overflow_sub-len
overflow_sub-len c =
    let ss = c.args.stretches.now.items in
    let s = c.index-stretch.result.now in
    let at = c.stretches.invariant in
    let there : c.stretches.number < length ss = omega (arith, c.stretches-test.true, c.len-number-end.ensures) in
    let here : s ≡ get_or ss c.stretches.number s = c.index-stretch.ensures ∙ ap (λ l. get_or l c.stretches.number s) at.preserved in
    end_within ss c.stretches.number c.args.position c.args.len c.stretches.first s c.args.items.now c.requires.were there here at.first

pub returns-then-position-end : goal.returns-then-position-end
returns-then-position-end c =
    let ss = c.args.stretches.now.items in
    let s = c.index-stretch.result.now in
    let at = c.stretches.invariant in
    let there : c.stretches.number < length ss = omega (arith, c.stretches-test.true, c.len-number-end.ensures) in
    let here : s ≡ get_or ss c.stretches.number s = c.index-stretch.ensures ∙ ap (λ l. get_or l c.stretches.number s) at.preserved in
    let own = c.items_from.result.now in
    let new = c.stretch_of.result in
    let is = c.items_from.ensures.value ∙ ap (drop c.stretches.first) c.items_up_to-front.ensures.value in
    record {
      are = subst (λ l. AreStretches (slice_set l c.stretches.number new) c.args.items.now) (sym at.preserved)
          (renewed_at ss c.stretches.number c.args.position c.args.len c.stretches.first s new c.args.items.now own c.requires.were there here at.first at.before c.if-position-end.true is c.stretch_of.ensures.items c.stretch_of.ensures.sum);
    }

pub stretches-preserved : goal.stretches-preserved
stretches-preserved c =
    let ss = c.args.stretches.now.items in
    let s = c.index-stretch.result.now in
    let at = c.stretches.invariant in
    let there : c.stretches.number < length ss = omega (arith, c.stretches-test.true, c.len-number-end.ensures) in
    let here : s ≡ get_or ss c.stretches.number s = c.index-stretch.ensures ∙ ap (λ l. get_or l c.stretches.number s) at.preserved in
    record {
      first = omega (arith, at.first, items_next ss c.stretches.number s there here);
      before = c.if-position-end.false;
      preserved = at.preserved;
    }

pub returns : goal.returns
returns c =
    let at = c.stretches.invariant in
    let ss = c.args.stretches.now.items in
    record {
      are = subst (λ l. AreStretches l c.args.items.now) (sym at.preserved)
          (stays_after ss c.stretches.number c.args.position c.args.len c.stretches.first c.args.items.now c.requires.were (omega (arith, c.stretches-test.false, c.len-number-end.ensures)) at.first at.before);
    }

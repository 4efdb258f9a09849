use Rattle.stab_items.proofs.Names.{◌<◌, ◌∙◌, [], refl, sym, length, arith, take_more_same, get_or_read}
use Rattle.stab_items.proofs.SameLemmas.{same_list, determines_factors}
use Rattle.stab_items.proofs.same.are_products.Goals as goal

pub loop-position-preserved : goal.loop-position-preserved
loop-position-preserved c =
    let xs = c.args.products.now in
    let ys = c.args.others.now in
    let i = c.loop-position.position in
    let left : i < length ys = omega (arith, c.loop-position-test.true, c.if-products-others.false) in
    take_more_same xs ys i [] c.loop-position-test.true left c.loop-position.invariant
    (sym (get_or_read xs i c.index-products-position.result c.loop-position-test.true c.index-products-position.is [])
    ∙ sym c.as_slice.ensures.value
    ∙ same_list _ c.as_slice.result.now c.as_slice-in-loop-position.result.now (determines_factors _ (λ a b. refl)) (sym c.eq-same.ensures ∙ c.if-not-same.false)
    ∙ c.as_slice-in-loop-position.ensures.value
    ∙ get_or_read ys i c.index-others-position.result left c.index-others-position.is [])

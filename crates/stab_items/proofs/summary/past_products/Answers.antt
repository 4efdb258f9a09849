use Rattle.stab_items.proofs.Names.{◌≡◌, ap, ◌∙◌, get_or, arith, past, factor_qubits}
use Rattle.stab_items.proofs.SummaryLemmas.{past_products_dropped}
use Rattle.stab_items.proofs.summary.past_products.Goals as goal

pub loop-product-preserved : goal.loop-product-preserved
loop-product-preserved c =
    let ps = c.args.products.now in
    let i = c.loop-product.product-index in
    let here : c.past_factors.result ≡ past (factor_qubits (get_or ps i c.product-item.result)) =
    c.past_factors.ensures.value ∙ ap (λ fs. past (factor_qubits fs)) (c.as_slice.ensures.value ∙ c.product-item.is) in
    let dropped = past_products_dropped ps i c.product-item.result c.loop-product-test.true in
    record {
      small = grind (arith, c.max-past.ensures, c.loop-product.invariant.small, c.past_factors.ensures.small);
      same = grind (arith, c.max-past.ensures, c.loop-product.invariant.same, here, dropped);
    }

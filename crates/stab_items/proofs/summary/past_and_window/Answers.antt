use Rattle.stab_items.proofs.Names.{◌≡◌, ap, ◌∙◌, ◌∷◌, [], get_or, arith, past, controlled_qubits, looks_back}
use Rattle.stab_items.proofs.SummaryLemmas.{past_controlled_dropped, furthest_dropped}
use Rattle.stab_items.proofs.summary.past_and_window.Goals as goal

pub loop-pair-preserved : goal.loop-pair-preserved
loop-pair-preserved c =
    let ps = c.args.pairs.now in
    let i = c.loop-pair.pair-index in
    let here : c.past_pair.result ≡ past (controlled_qubits (get_or ps i c.pair-item.result ∷ [])) =
    c.past_pair.ensures.value ∙ ap (λ p. past (controlled_qubits (p ∷ []))) c.pair-item.is in
    let back : c.window_of_pair.result ≡ looks_back (get_or ps i c.pair-item.result) = c.window_of_pair.ensures.value ∙ ap looks_back c.pair-item.is in
    let dropped = past_controlled_dropped ps i c.pair-item.result c.loop-pair-test.true in
    let further = furthest_dropped ps i c.pair-item.result c.loop-pair-test.true in
    record {
      few = grind (arith, c.max-past.ensures, c.loop-pair.invariant.few, c.past_pair.ensures.small);
      near = grind (arith, c.max-furthest.ensures, c.loop-pair.invariant.near, c.window_of_pair.ensures.small);
      past_same = grind (arith, c.max-past.ensures, c.loop-pair.invariant.past_same, here, dropped);
      window_same = grind (arith, c.max-furthest.ensures, c.loop-pair.invariant.window_same, back, further);
    }

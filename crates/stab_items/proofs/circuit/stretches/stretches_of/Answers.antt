use Rattle.stab_items.proofs.Names.{◌≡◌, ◌∙◌, ap, sym, subst, length, take, drop, ◌++◌, ◌∷◌, [], arith, drop-drop, length-drop, listed, IsSumOf, AreStretches, items_in}
use Rattle.stab_items.proofs.StretchLemmas.{stretch_pushed, items_pushed}
use Rattle.stab_items.proofs.circuit.stretches.stretches_of.Goals as goal

pub stretches-preserved : goal.stretches-preserved
stretches-preserved c =
    let ss = c.stretches.all.items in
    let xs = c.args.items.now in
    let s = c.stretch_of.result in
    let at = c.stretches.invariant in
    let pushed : c.push.new.self.items ≡ ss ++ s ∷ [] = c.in_ok-push.ensures.items in
    let long = ap length at.rest in
    let own : c.split_at.result.0.now ≡ take 512 (drop (items_in ss) xs) = c.split_at.ensures.front ∙ ap (take 512) at.rest in
    let items : s.items ≡ 512 = omega (arith, c.stretch_of.ensures.items, c.stretches-test.true, ap length c.split_at.ensures.front) in
    let sum = subst (λ l. IsSumOf (listed l) s.summary) (own ∙ ap (λ n. take n (drop (items_in ss) xs)) (sym items)) c.stretch_of.ensures.sum in
    record {
      are = subst (λ l. AreStretches l xs) (sym pushed) (stretch_pushed ss s xs at.are (omega (arith, items, c.stretches-test.true, long)) sum);
      fits = omega (arith, items, ap items_in pushed, items_pushed ss s, c.stretches-test.true, long, length-drop (items_in ss) xs, at.fits);
      rest = c.split_at.ensures.back ∙ ap (drop 512) at.rest ∙ drop-drop 512 (items_in ss) xs ∙ ap (λ n. drop n xs) (omega (arith, items, ap items_in pushed, items_pushed ss s));
    }

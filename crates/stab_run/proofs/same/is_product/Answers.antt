use Rattle.stab_run.proofs.Names.{refl, sym, ◌∙◌, ap, OnTrue_from, product, step_shown}
use Rattle.stab_run.proofs.SameLemmas.{same_list, same_bool, determines_factors}
use Rattle.stab_run.proofs.same.is_product.Goals as goal

pub returns-then-same_bit : goal.returns-then-same_bit
returns-then-same_bit c = record {
  same = OnTrue_from c.eq-same_list.result _
      (λ t. ap (λ fs. product fs c.args.inverted) (same_list _ c.args.factors.now c.in-Product.others.now (determines_factors _ (λ a b. refl)) (sym c.eq-same_list.ensures ∙ t))
      ∙ ap (product c.in-Product.others.now) (same_bool c.args.inverted c.in-Product.other c.if-same_bit.true)
      ∙ sym (ap step_shown c.in-Product.is));
}

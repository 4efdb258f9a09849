use Rattle.stab_regions.proofs.Names.{◌<◌, refl, ◌∙◌, sym, ap, subst, List, length, take, get_or, take_more, Factor, letter_of, MovesLetters}
use Rattle.stab_regions.proofs.FactorLemmas.{by_product, by_product-none, by_product-more, multiplied-as, site-distinct}
use Rattle.stab_regions.proofs.products.multiply_product.Goals as goal

pub loop-factor-init : goal.loop-factor-init
loop-factor-init c = record {
  same_x = refl;
  same_z = refl;
  strings = by_product-none (length c.args.by_x.now) c.args.parities.now c.args.by_x.now c.args.by_z.now;
}

pub loop-factor-preserved : goal.loop-factor-preserved
loop-factor-preserved c =
    let n = length c.args.by_x.now in
    let factors : List Factor = c.args.factors.now in
    let k = c.loop-factor.factor-index in
    let f : Factor = get_or factors k c.factor-item.result in
    let inside : k < length factors = c.loop-factor-test.true in
    record {
      same_x = c.in_ok-multiply.ensures.same_x ∙ c.loop-factor.invariant.same_x;
      same_z = c.in_ok-multiply.ensures.same_z ∙ c.loop-factor.invariant.same_z;
      strings =
          subst (λ (fs : List Factor). MovesLetters n (by_product n fs c.args.parities.now) c.args.by_x.now c.args.by_z.now c.multiply.new.by_x c.multiply.new.by_z)
          (sym (take_more factors k c.factor-item.result inside))
          (by_product-more n (take k factors) f c.args.parities.now c.args.by_x.now c.args.by_z.now c.loop-factor.by_x c.loop-factor.by_z c.multiply.new.by_x c.multiply.new.by_z
          (site-distinct factors k c.factor-item.result inside c.requires.distinct)
          c.loop-factor.invariant.strings
          (multiplied-as n (length c.loop-factor.by_x) _ f.qubit _ (letter_of f.letter) c.args.parities.now c.loop-factor.by_x c.loop-factor.by_z c.multiply.new.by_x c.multiply.new.by_z
          c.loop-factor.invariant.same_x
          (c.letter-letter.ensures.value ∙ ap (λ (g : Factor). letter_of g.letter) c.factor-item.is)
          (c.number-qubit.ensures.value ∙ ap (λ (g : Factor). g.qubit) c.factor-item.is)
          c.in_ok-multiply.ensures.strings));
    }

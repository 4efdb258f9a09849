use Rattle.stab_regions.proofs.Names.{◌<◌, ◌∙◌, sym, ap, arith, List, length, take, get_or, take_more, ◌⊕◌, single, anticommute, Factor, letter_of, string_of, odd}
use Rattle.stab_regions.proofs.ShowLemmas.{bits-anticommute}
use Rattle.stab_regions.proofs.FactorLemmas.{flips-none, flips-more, site-distinct}
use Rattle.stab_regions.proofs.products.flipped_by_product.Goals as goal

pub loop-factor-init : goal.loop-factor-init
loop-factor-init c = λ i s long shows. ap (odd i) c.none-parities.ensures.value ∙ flips-none (length c.args.by_x.now) s

pub loop-factor-preserved : goal.loop-factor-preserved
loop-factor-preserved c = λ i s long shows.
    let n = length c.args.by_x.now in
    let factors : List Factor = c.args.factors.now in
    let k = c.loop-factor.factor-index in
    let f : Factor = get_or factors k c.factor-item.result in
    let inside : k < length factors = c.loop-factor-test.true in
    let in_range : c.number-qubit.result < n = search (arith, c.requires.in_range, c.factor-item.is, c.number-qubit.ensures.value, inside) in
    c.in_ok-parities.ensures.odd i
    ∙ (λ t. c.loop-factor.invariant i s long shows t
    ⊕ (c.in_ok-more.ensures.odd i ∙ bits-anticommute i n _ _ c.args.by_x.now c.args.by_z.now s in_range long shows
    ∙ (λ u. anticommute (single n ((c.number-qubit.ensures.value ∙ ap (λ (g : Factor). g.qubit) c.factor-item.is) u) ((c.letter-letter.ensures.value ∙ ap (λ (g : Factor). letter_of g.letter) c.factor-item.is) u)) s)) t)
    ∙ flips-more n (take k factors) f s (site-distinct factors k c.factor-item.result inside c.requires.distinct)
    ∙ ap (λ (fs : List Factor). anticommute (string_of n fs) s) (sym (take_more factors k c.factor-item.result inside))

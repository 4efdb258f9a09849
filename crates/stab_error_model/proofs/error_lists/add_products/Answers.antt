use Rattle.stab_error_model.proofs.Names.{◌∙◌, ap, map, take, [], ◌∷◌, arith, get_or_default, take_all, Error, product_at, each_product, Letter, single_error_of_letter, error_shown, ErrorStands, Stands}
use Rattle.stab_error_model.proofs.ErrorListLemmas.{adds-none, adds-same, adds-weaker, mapped-more}
use Rattle.stab_error_model.proofs.error_lists.add_products.Goals as goal

pub pairs-init : goal.pairs-init
pairs-init c = record {
  is = c.pairs_asked-pair-items.ensures.value;
  adds = adds-none (λ single_errors. Stands c.args.first single_errors × Stands c.args.second single_errors) c.args.errors.now.items;
}

pub pairs-preserved : goal.pairs-preserved
pairs-preserved c =
    let xs = c.pairs_asked-pair-items.result.now in
    let k = c.pairs.pair-index in
    let first = c.args.first in
    let second = c.args.second in
    let e = c.product_at.result in record {
      is = c.pairs_asked-pair-items.ensures.value;
      adds = mapped-more (λ p. product_at (single_error_of_letter first) (single_error_of_letter second) p.0 p.1) (λ single_errors. Stands first single_errors × Stands second single_errors) xs k _
          c.args.errors.now.items c.pairs.errors.items c.add_error.new.errors.items c.pairs-test.true
          (get_or_default xs k _ _ c.pairs-test.true)
          c.pairs.invariant.adds
          (adds-same (λ single_errors. Stands first single_errors × Stands second single_errors) (error_shown e ∷ []) _ c.pairs.errors.items c.add_error.new.errors.items
          (ap (λ x. x ∷ []) c.product_at.ensures.value)
          (adds-weaker (λ single_errors. ErrorStands single_errors e) (λ single_errors. Stands first single_errors × Stands second single_errors) (error_shown e ∷ []) c.pairs.errors.items c.add_error.new.errors.items
          (λ single_errors stands. c.product_at.ensures.stands single_errors stands.0 stands.1) c.in_ok-add_error.ensures.adds));
    }

pub returns : goal.returns
returns c =
    let xs = c.pairs_asked-pair-items.result.now in
    let first = c.args.first in
    let second = c.args.second in
    let f : Letter × Letter → Error = λ p. product_at (single_error_of_letter first) (single_error_of_letter second) p.0 p.1 in record {
      adds = adds-same (λ single_errors. Stands first single_errors × Stands second single_errors) (map f (take c.pairs.pair-index xs)) (each_product c.args.letters (single_error_of_letter first) (single_error_of_letter second))
          c.args.errors.now.items c.pairs.errors.items
          (ap (map f) (take_all c.pairs.pair-index xs (omega (arith, c.pairs-test.false)) ∙ c.pairs_asked-pair-items.ensures.value))
          c.pairs.invariant.adds;
    }

use Rattle.stab_error_model.proofs.Names.{◌≡◌, ◌∙◌, ◌<◌, ◌∷◌, [], false, sym, ap, subst, drop, length, arith, ◌==◌, nat_tests, drop_more, letter_of, flip_of, in_front, following, single_error_on, wrong_product, wrong_record, single_error_of_letter, AddsErrors, HasFrom, Stands, factor_single_errors}
use Rattle.stab_error_model.proofs.EverywhereLemmas.{record-at}
use Rattle.stab_error_model.proofs.everywhere.add_product_record.Goals as goal

pub returns : goal.returns
returns c =
    let t = c.args.step in
    let m = c.args.number in
    let factors = c.args.factors.now in
    let f = c.index-factors-0.result in
    let p = c.in_front-front.result in
    let r = c.following-following.result in
    let old = c.args.errors.now.items in
    let new = c.add_record.new.errors.items in
    let empty : c.is_empty.result ≡ (length factors == 0) = c.is_empty.ensures in
    let off : c.is_empty.result ≡ false = c.if-is_empty.false in
    let some : 0 < length factors = grind (arith, nat_tests, empty, off) in
    let split : factors ≡ f ∷ drop 1 factors = drop_more factors 0 f some ∙ ap (λ y. y ∷ drop 1 factors) (sym c.index-factors-0.is) in
    record {
      adds = subst (λ fs. AddsErrors (HasFrom c.args.row (factor_single_errors t fs)) (wrong_product t m fs) old new) (sym split)
          (record-at p r c.args.row t m f.qubit (flip_of (letter_of f.letter)) (factor_single_errors t (drop 1 factors)) old new c.in_front-front.ensures.row c.following-following.ensures.row
          (λ l. c.in_front-front.ensures.value l ∙ ap (λ q. single_error_on t (in_front q) l) c.number-qubit.ensures.value)
          (λ l. c.following-following.ensures.value l ∙ ap (λ q. single_error_on t (following q) l) c.number-qubit.ensures.value)
          (subst (λ l. AddsErrors (λ single_errors. Stands p single_errors × Stands r single_errors) (wrong_record m (single_error_of_letter p (flip_of l)) (single_error_of_letter r (flip_of l) ∷ []) ∷ []) old new)
          c.letter.ensures.value c.in_ok-add_record.ensures.adds));
    }

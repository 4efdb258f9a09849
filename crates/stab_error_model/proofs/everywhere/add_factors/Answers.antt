use Rattle.stab_error_model.proofs.Names.{◌≡◌, ◌∙◌, ◌+◌, ◌*◌, ◌∷◌, sym, ap, subst, drop, arith, drop_more, in_front, single_error_on, HasFrom, IsUnderWay, factor_errors, factor_single_errors}
use Rattle.stab_error_model.proofs.EverywhereLemmas.{long-factors, factor-more}
use Rattle.stab_error_model.proofs.everywhere.add_factors.Goals as goal

pub overflow_add-row : goal.overflow_add-row
overflow_add-row c = record { fits = omega (arith, c.requires.rows, c.factors-test.true, long-factors c.args.step c.args.factors.now) }

pub factors-preserved : goal.factors-preserved
factors-preserved c =
    let ls = c.args.letters.now in
    let t = c.args.step in
    let xs = c.args.factors.now in
    let k = c.factors.k in
    let f = c.index-factors-k.result in
    let Is = HasFrom c.args.row (factor_single_errors t xs) in
    let all = factor_errors ls t xs in
    let split : drop k xs ≡ f ∷ drop (k + 1) xs = drop_more xs k f c.factors-test.true ∙ ap (λ y. y ∷ drop (k + 1) xs) (sym c.index-factors-k.is) in
    factor-more ls Is all (c.args.row + 4 * k) (c.args.row + 4 * (k + 1)) t f (drop (k + 1) xs) c.in_front-front.result c.args.errors.now.items c.factors.errors.items c.add_letters.new.errors.items
    c.in_front-front.ensures.row
    (λ l. c.in_front-front.ensures.value l ∙ ap (λ q. single_error_on t (in_front q) l) (c.number.ensures.value ∙ ap (λ g. g.qubit) (sym c.index-factors-k.is)))
    (omega arith)
    (subst (λ ys. IsUnderWay Is all (factor_errors ls t ys) (c.args.row + 4 * k) (factor_single_errors t ys) c.args.errors.now.items c.factors.errors.items) split c.factors.invariant)
    c.in_ok-add_letters.ensures.adds

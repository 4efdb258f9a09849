use Rattle.stab_error_model.proofs.Names.{◌≡◌, ◌∙◌, ◌+◌, ◌*◌, ◌∷◌, sym, ap, subst, drop, arith, drop_more, in_front, single_error_on, each_target, HasFrom, IsUnderWay, target_single_errors}
use Rattle.stab_error_model.proofs.MarkedLemmas.{target-more}
use Rattle.stab_error_model.proofs.marked.add_targets.Goals as goal

pub targets-preserved : goal.targets-preserved
targets-preserved c =
    let ls = c.args.letters.now in
    let xs = c.args.qubits.now in
    let t = c.args.step in
    let k = c.targets.k in
    let q = c.index-qubits-k.result in
    let Is = HasFrom c.args.row (target_single_errors t xs) in
    let all = each_target ls t xs in
    let split : drop k xs ≡ q ∷ drop (k + 1) xs = drop_more xs k q c.targets-test.true ∙ ap (λ y. y ∷ drop (k + 1) xs) (sym c.index-qubits-k.is) in
    target-more ls Is all (c.args.row + 2 * k) (c.args.row + 2 * (k + 1)) (t + k) (t + (k + 1)) q (drop (k + 1) xs) c.in_front-site.result c.args.errors.now.items c.targets.errors.items c.add_letters.new.errors.items
    c.in_front-site.ensures.row
    (λ l. c.in_front-site.ensures.value l ∙ ap (λ n. single_error_on (t + k) (in_front n) l) c.number.ensures.value)
    (omega arith) (omega arith)
    (subst (λ ys. IsUnderWay Is all (each_target ls (t + k) ys) (c.args.row + 2 * k) (target_single_errors (t + k) ys) c.args.errors.now.items c.targets.errors.items) split c.targets.invariant)
    c.in_ok-add_letters.ensures.adds

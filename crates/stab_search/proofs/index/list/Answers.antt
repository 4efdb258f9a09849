use Rattle.stab_search.proofs.Names.{ℕ, ◌<◌, List, [], ◌∷◌, ◌++◌, ◌∙◌, ap, arith, length, rows_listed}
use Rattle.stab_search.proofs.IndexLemmas.{listed-push, listed-set_here, listed-set_other, listed-at}
use Rattle.stab_search.proofs.index.list.Goals as goal

pub grow-preserved : goal.grow-preserved
grow-preserved c = λ e.
    ap (λ v. rows_listed v e) c.in_ok-push.ensures.items ∙ listed-push c.grow.index.items c.new.result e c.new.ensures.items ∙ c.grow.invariant e

pub returns-clause-here : goal.returns-clause-here
returns-clause-here c =
    let lt : c.args.position < length c.grow.index.items = omega (arith, c.grow-test.false) in
    listed-set_here c.grow.index.items c.args.position c.push-2.new.self lt
    ∙ c.in_ok-push-2.ensures.items
    ∙ ap (λ (xs : List ℕ). xs ++ c.args.r ∷ []) (listed-at c.grow.index.items c.args.position c.index_mut.result.now lt c.index_mut.ensures.value ∙ c.grow.invariant c.args.position)

pub returns-clause-elsewhere : goal.returns-clause-elsewhere
returns-clause-elsewhere c = λ e other. listed-set_other c.grow.index.items c.args.position e c.push-2.new.self other ∙ c.grow.invariant e

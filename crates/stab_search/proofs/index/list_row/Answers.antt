use Rattle.stab_search.proofs.Names.{◌≡◌, true, arith, subst, below_more, get_or, has, rows_listed}
use Rattle.stab_search.proofs.ListLemmas.{has-at}
use Rattle.stab_search.proofs.IndexLemmas.{added-has, preserved-has, preserved-inside}
use Rattle.stab_search.proofs.index.list_row.Goals as goal

pub each-preserved : goal.each-preserved
each-preserved c =
    let d = get_or c.args.positions.now c.each.d-index 0 in
    let old = c.each.index.items in
    let new = c.list.new.index.items in
    record {
      others = λ e q h. preserved-has old new d c.args.r c.in_ok-list.ensures.here c.in_ok-list.ensures.elsewhere e q (c.each.invariant.others e q h);
      added = below_more _ _
          (λ k lt. preserved-has old new d c.args.r c.in_ok-list.ensures.here c.in_ok-list.ensures.elsewhere (get_or c.args.positions.now k 0) c.args.r (c.each.invariant.added k lt))
          (added-has old new d c.args.r c.in_ok-list.ensures.here c.in_ok-list.ensures.elsewhere);
      inside = λ n e lt a. preserved-inside old new d c.args.r c.in_ok-list.ensures.here c.in_ok-list.ensures.elsewhere n e lt (c.each.invariant.inside n e lt a);
    }

pub returns-clause-each : goal.returns-clause-each
returns-clause-each c = λ d h.
    let position = has-at d c.args.positions.now h in
    let lt = position.1.0 in
    subst (λ e. has c.args.r (rows_listed c.each.index.items e) ≡ true) position.1.1 (c.each.invariant.added position.0 (omega (arith, lt, c.each-test.false)))

use Rattle.stab_search.proofs.Names.{◌≡◌, ℕ, ◌<◌, ◌≤◌, false, List, length, subst, arith, odd, row}
use Rattle.stab_search.proofs.BoundLemmas.{bound-all}
use Rattle.stab_search.proofs.bounds.has_bound.Goals as goal

pub returns : goal.returns
returns c = record {
  yes = λ yes.
      bound-all c.args.graph.now.table c.args.bound c.end_of_rows-o-end.result c.observables.o
      (subst (λ (rows : List (List ℕ)). (r i : ℕ) → r < length rows → c.end_of_rows-o-end.result ≤ i → odd i (row rows r) ≡ false) c.rows.ensures.value
      c.end_of_rows-o-end.ensures.end)
      (omega (arith, c.observables-test.false)) c.observables.invariant;
}

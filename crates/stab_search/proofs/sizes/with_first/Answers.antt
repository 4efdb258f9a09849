use Rattle.stab_search.proofs.Names.{◌≡◌, true, sym, subst, ℕ, List, ◌+◌, has, CompletesSetWithin, IsLogicalWithin}
use Rattle.stab_search.proofs.ListLemmas.{has-push}
use Rattle.stab_search.proofs.ShortestLemmas.{begun}
use Rattle.stab_search.proofs.sizes.with_first.Goals as goal

pub returns-clause-some : goal.returns-clause-some
returns-clause-some c =
    subst (IsLogicalWithin c.args.errors.now.table (c.args.left + 1)) (sym c.in_ok-push-in-Some.ensures.items)
    (begun c.args.errors.now.table c.args.first c.args.left c.in-Some.rest.items c.requires.inside
    (subst (λ (xs : List ℕ). CompletesSetWithin c.args.errors.now.table xs c.args.left c.in-Some.rest.items) c.row-flipped.ensures.value
    (rw c.in-Some.is at c.in_ok-search.ensures.some)))

pub returns-clause-begun : goal.returns-clause-begun
returns-clause-begun c = (
  c.has.ensures.yes c.if-not-has.false,
  subst (λ (xs : List ℕ). has c.args.first xs ≡ true) (sym c.in_ok-push-in-Some.ensures.items) (has-push c.args.first c.in-Some.rest.items),
)

use Rattle.std.proofs.Common.{ℕ, ◌+◌, ◌<◌, ◌≤◌, List, [], ◌∷◌, ◌++◌, subst, sym, ◌∙◌, ap, arith}
use Rattle.std.specs.Global.{Vec}
use Rattle.stab_parities.specs.Ascending.{AscendsFrom, IsAscending}
use Rattle.stab_search.specs.inner.Lists.{ForEach}
use Rattle.stab_search.proofs.ListLemmas.{each-map, each-push}
use Rattle.tests_library.proofs.distances.numbers_of.Goals as goal
use Rattle.tests_library.proofs.distances.numbers_of.Goals.{then-bits-n-eq1+in_ok-push, else-bits-n-eq1}

-- a number above all of them is put after them
ascends-last : (m : ℕ) (xs : List ℕ) (x : ℕ) → m ≤ x → AscendsFrom m xs → ForEach (λ y. y < x) xs → AscendsFrom m (xs ++ x ∷ [])
ascends-last m [] x le a b = (le, tt)
ascends-last m (y ∷ ys) x le a b = (a.0, ascends-last (y + 1) ys x (let h = b.0 in omega arith) a.1 b.1)

-- each is below one more
more : (xs : List ℕ) (n : ℕ) → ForEach (λ x. x < n) xs → ForEach (λ x. x < n + 1) xs
more xs n = each-map (λ x. x < n) (λ x. x < n + 1) (λ x lt. omega arith) xs

pub bits-preserved : goal.bits-preserved
bits-preserved c = elim c.if-bits-n-eq1.branch [
  | then-bits-n-eq1+in_ok-push w ↦
      let items = ap (λ (v : Vec ℕ). v.items) w.numbers-is ∙ w.in_ok-push.ensures.items in
      record {
        ascending = subst IsAscending (sym items) (ascends-last 0 c.bits.numbers.items c.bits.n (omega arith) c.bits.invariant.ascending c.bits.invariant.below);
        below = subst (ForEach (λ x. x < c.bits.n + 1)) (sym items)
            (each-push (λ x. x < c.bits.n + 1) c.bits.numbers.items c.bits.n (omega arith) (more c.bits.numbers.items c.bits.n c.bits.invariant.below));
      }
  | else-bits-n-eq1 w ↦
      let items = ap (λ (v : Vec ℕ). v.items) w.numbers-is in
      record {
        ascending = subst IsAscending (sym items) c.bits.invariant.ascending;
        below = subst (ForEach (λ x. x < c.bits.n + 1)) (sym items) (more c.bits.numbers.items c.bits.n c.bits.invariant.below);
      }
]

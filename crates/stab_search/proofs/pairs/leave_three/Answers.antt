use Rattle.stab_search.proofs.Names.{ℕ, inl, odd, row, by_one}
use Rattle.stab_search.proofs.PairListLemmas.{third}
use Rattle.stab_search.proofs.pairs.leave_three.Goals as goal

pub returns : goal.returns
returns c =
    let rows = c.args.errors.now.table.rows in
    let firsts = c.args.errors.now.firsts in
    let inside = c.in_ok-are_even.ensures.inside c.if-not-branch.false in
    let even = c.in_ok-are_even.ensures.even c.if-not-branch.false in
    let sums = λ (i : ℕ). third (odd i (row rows c.args.a)) (odd i (row rows c.args.b)) (odd i (row rows c.args.c)) (even i) in record {
      pairs = c.in_ok-leave-3.ensures.pairs rows firsts (inl (by_one c.args.a inside.0 (λ i. (sums i).1.1)))
          (c.in_ok-leave-2.ensures.pairs rows firsts (inl (by_one c.args.b inside.1.0 (λ i. (sums i).1.0)))
          (c.in_ok-leave.ensures.pairs rows firsts (inl (by_one c.args.c inside.1.1.0 (λ i. (sums i).0))) c.requires.pairs));
    }

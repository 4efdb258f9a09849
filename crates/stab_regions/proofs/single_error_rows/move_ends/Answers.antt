use Rattle.stab_regions.proofs.Names.{◌≡◌, ◌≤◌, ◌+◌, ◌-◌, ◌<◌, ap, subst, sym, ◌∙◌, arith, length, take, drop, get_or, List, ℕ, drop-set-lt, Rises, retained_of}
use Rattle.stab_regions.proofs.StoredRowLemmas.{rises-below, rises-drop, ends-step, part-long, ends-end}
use Rattle.stab_regions.proofs.single_error_rows.move_ends.Goals as goal
use Rattle.stab_regions.proofs.single_error_rows.move_ends.Goals.{After-count_retained-count}

pub part-requires-clause-order : goal.part-requires-clause-order
part-requires-clause-order c = (rises-drop c.rows.begin c.rows.ends (length c.args.numbers.now) c.rows.k (omega (arith, c.rows-test.true)) c.rows.invariant.rises).0

pub part-requires-clause-in_range : goal.part-requires-clause-in_range
part-requires-clause-in_range c =
    let r = rises-drop c.rows.begin c.rows.ends (length c.args.numbers.now) c.rows.k (omega (arith, c.rows-test.true)) c.rows.invariant.rises in
    rises-below (get_or c.rows.ends c.rows.k 0) (drop (c.rows.k + 1) c.rows.ends) (length c.args.numbers.now) r.1

-- the numbers of this row that are left
counted : (c : After-count_retained-count) → c.count_retained-count.result ≡ length (retained_of c.args.retained.now (take (get_or c.rows.ends c.rows.k 0 - c.rows.begin) (drop c.rows.begin c.args.numbers.now)))
counted c = c.count_retained-count.ensures.value ∙ ap (λ (xs : List ℕ). length (retained_of c.args.retained.now xs)) c.part.ensures.value

few : (c : After-count_retained-count) → c.count_retained-count.result ≤ get_or c.rows.ends c.rows.k 0 - c.rows.begin
few c = omega (arith, counted c, part-long c.args.retained.now c.args.numbers.now c.rows.begin (get_or c.rows.ends c.rows.k 0))

ordered : (c : After-count_retained-count) → c.rows.begin ≤ get_or c.rows.ends c.rows.k 0
ordered c = (rises-drop c.rows.begin c.rows.ends (length c.args.numbers.now) c.rows.k (omega (arith, c.rows-test.true)) c.rows.invariant.rises).0

pub overflow_add-count : goal.overflow_add-count
overflow_add-count c =
    let r = rises-drop c.rows.begin c.rows.ends (length c.args.numbers.now) c.rows.k (omega (arith, c.rows-test.true)) c.rows.invariant.rises in
    let end : get_or c.rows.ends c.rows.k 0 ≤ length c.args.numbers.now = rises-below _ _ _ r.1 in
    record { fits = omega (arith, few c, ordered c, c.rows.invariant.counted, end) }

pub rows-preserved : goal.rows-preserved
rows-preserved c =
    let inside : c.rows.k < length c.rows.ends = omega (arith, c.rows-test.true) in
    let r = rises-drop c.rows.begin c.rows.ends (length c.args.numbers.now) c.rows.k inside c.rows.invariant.rises in
    record {
      counted = omega (arith, few c, ordered c, c.rows.invariant.counted);
      within = rises-below (get_or c.rows.ends c.rows.k 0) (drop (c.rows.k + 1) c.rows.ends) (length c.args.numbers.now) r.1;
      rises =
          subst (λ (es : List ℕ). Rises (get_or c.rows.ends c.rows.k 0) es (length c.args.numbers.now))
          (sym (drop-set-lt (c.rows.k + 1) c.rows.ends c.rows.k (c.rows.count + c.count_retained-count.result) (omega arith))) r.1;
      ends =
          ends-step c.args.retained.now c.rows.count c.rows.begin c.rows.k c.rows.ends c.args.numbers.now _ _ inside (ordered c)
          (ap (λ n. c.rows.count + n) (counted c)) c.rows.invariant.ends;
    }

pub returns : goal.returns
returns c = record {
  value =
      ends-end c.args.retained.now c.rows.count c.rows.begin c.rows.k c.rows.ends c.args.numbers.now _
      (omega (arith, c.rows-test.false)) c.rows.invariant.ends;
}

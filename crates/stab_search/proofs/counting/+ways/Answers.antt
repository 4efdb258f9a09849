use Rattle.stab_search.proofs.Names.{rules, ◌≡◌, ◌<◌, ◌≤◌, ◌⊎◌, [], ℕ, ◌+◌, ◌-◌, ◌*◌, List, ◌++◌, ◌∙◌, sym, ap, subst, arith, below_more, length, get_or, set, slice_index, bit_xor, ◌⊕◌, IsAscending, odd, row, ForEach, ways, ReportsNumber, HasNoFewer, MeetsEach}
use Rattle.stab_search.proofs.ChoiceLemmas.{none-after}
use Rattle.stab_search.proofs.FlipLemmas.{key-sum}
use Rattle.stab_search.proofs.ListLemmas.{each-has, has-at}
use Rattle.stab_search.proofs.ScanLemmas.{is-among, is-other}
use Rattle.stab_search.proofs.TryLemmas.{part-more, part-whole, zero-here, zero-preserved, others-preserved, nothing-weighs, nothing-last, key-after, fewer-after, none-less, alike-after, length-set, without-detector, detector-none}
use Rattle.stab_search.proofs.WayLemmas.{ways-alike}
use Rattle.stab_search.proofs.counting.+ways.Goals as goal

pub try_each-tries-preserved : goal.try_each-tries-preserved
try_each-tries-preserved t c =
    let table = c.args.errors.now.table in
    let tried = c.args.tried.now in
    let k = c.tries.g-index in
    let g = get_or tried k 0 in
    let inside : g < length table.rows = each-has (λ e. e < length table.rows) g tried c.requires.inside (is-among tried k c.tries-test.true) in
    let there : g < length c.tries.weights = omega (arith, inside, c.tries.invariant.weights) in
    record {
      weights = omega (arith, c.in_ok-more.ensures.length, c.tries.invariant.weights);
      cover = omega (arith, c.in_ok-more.ensures.cover, c.tries.invariant.cover);
      part = part-more table c.args.weights.now c.tries.weights c.try_error.new.weights c.args.flipped.now g c.args.rest c.tries.sum c.in_ok-more.more c.plus-sum.result
          inside c.tries.invariant.weights c.in_ok-more.ensures.weights c.tries.invariant.part c.in_ok-more.ensures.count c.plus-sum.ensures.sum;
      zero = below_more _ _
          (λ j lt. zero-preserved c.tries.weights c.try_error.new.weights g (get_or tried j 0) there c.in_ok-more.ensures.weights (c.tries.invariant.zero j lt))
          (zero-here c.tries.weights c.try_error.new.weights g there c.in_ok-more.ensures.weights);
      others = λ e not.
          others-preserved c.tries.weights c.try_error.new.weights g e (is-other e tried k c.tries-test.true not) c.in_ok-more.ensures.weights ∙ c.tries.invariant.others e not;
    }

pub try_each-returns-clause-zero : goal.try_each-returns-clause-zero
try_each-returns-clause-zero t c = λ e there.
    let position = has-at e c.args.tried.now there in
    let lt = position.1.0 in
    subst (λ j. slice_index c.tries.weights j ≡ 0) position.1.1 (c.tries.invariant.zero position.0 (omega (arith, lt, c.tries-test.false)))

pub try_error-returns-then-weight-eq0-clause-count : goal.try_error-returns-then-weight-eq0-clause-count
try_error-returns-then-weight-eq0-clause-count t c = nothing-weighs _ _ c.if-weight-eq0.true

pub try_error-returns-then-not-is_live_key-clause-count : goal.try_error-returns-then-not-is_live_key-clause-count
try_error-returns-then-not-is_live_key-clause-count t c =
    let table = c.args.errors.now.table in
    let numbers = c.args.errors.now.numbers in
    let x = row table.rows c.args.g in
    nothing-last table numbers (set c.args.weights.now c.args.g 0) c.args.flipped.now x (get_or c.args.weights.now c.args.g 0) c.args.rest c.key.ensures.numbered
    (length-set c.args.weights.now c.args.g 0 ∙ c.requires.weights) c.if-rest-eq1.true
    (λ e lt same. c.is_live_key.ensures.not c.if-not-is_live_key.true e lt
    (same ∙ key-after numbers c.args.flipped.now x ∙ (λ i. bit_xor (sym c.requires.keyed.value i) (sym c.key.ensures.value i))))

pub try_error-ways-requires : goal.try_error-ways-requires
try_error-ways-requires t c =
    let table = c.args.errors.now.table in
    let s = c.args.flipped.now in
    let next = c.as_slice.result.now in
    let merged : (d : ℕ) → odd d next ≡ odd d s ⊕ odd d (row table.rows c.args.g) =
    λ d. ap (odd d) c.as_slice.ensures.value ∙ c.in_ok-merge_into.ensures.odd d ∙ ap (λ (xs : List ℕ). odd d s ⊕ odd d xs) c.row.ensures.value in (
      search rules,
      (
        record {
          ascending = subst IsAscending (sym c.as_slice.ensures.value) c.in_ok-merge_into.ensures.ascending;
          value = (λ i. bit_xor (c.requires.keyed.value i) (c.key.ensures.value i)) ∙ sym (key-sum c.args.errors.now.numbers next s (row table.rows c.args.g) (λ d lt. merged d));
        },
        (
          c.requires.none,
          (
            fewer-after table s next c.args.g c.args.rest merged c.requires.inside c.requires.fewer,
            (length-set c.args.weights.now c.args.g 0 ∙ c.requires.weights, c.requires.cover),
          ),
        ),
      ),
    )

pub try_error-returns-clause-count : goal.try_error-returns-clause-count
try_error-returns-clause-count t c =
    let table = c.args.errors.now.table in
    let s = c.args.flipped.now in
    let next = c.as_slice.result.now in
    let x = row table.rows c.args.g in
    let weights = set c.args.weights.now c.args.g 0 in
    subst (λ n. ReportsNumber (get_or c.args.weights.now c.args.g 0 * n) c.times.result)
    (ways-alike table.detectors table.rows weights c.args.rest next (x ++ s)
    (alike-after s next x (λ d. ap (odd d) c.as_slice.ensures.value ∙ c.in_ok-merge_into.ensures.odd d ∙ ap (λ (xs : List ℕ). odd d s ⊕ odd d xs) c.row.ensures.value)))
    (c.times.ensures.product (ways table.detectors table.rows weights c.args.rest next) c.in_ok-each.ensures.count)

pub ways-returns-then-not-flips_detector-clause-count : goal.ways-returns-then-not-flips_detector-clause-count
ways-returns-then-not-flips_detector-clause-count t c =
    let none = c.flips_detector.ensures.not c.if-not-flips_detector.true in
    without-detector c.args.errors.now.table c.args.weights.now c.args.flipped.now c.args.left c.ways_without_detector.result c.requires.weights c.requires.keyed.ascending
    c.requires.none c.requires.fewer
    (subst (λ n. (c.args.flipped.now ≡ []) ⊎ ((0 < length c.args.flipped.now) × (n ≤ get_or c.args.flipped.now 0 0))) c.detectors.ensures.value none)
    c.ways_without_detector.ensures.one c.ways_without_detector.ensures.none c.ways_without_detector.ensures.nothing

pub ways-returns-then-left-eq0-clause-count : goal.ways-returns-then-left-eq0-clause-count
ways-returns-then-left-eq0-clause-count t c =
    let some = c.flips_detector.ensures.yes c.if-not-flips_detector.false in
    detector-none c.args.errors.now.table c.args.weights.now c.args.flipped.now c.args.left c.if-left-eq0.true c.requires.keyed.ascending
    (some.0, omega (arith, some.1, c.detectors.ensures.value))

pub ways-weights_at-requires : goal.ways-weights_at-requires
ways-weights_at-requires t c = record {
  inside = subst (λ n. ForEach (λ e. e < n) c.as_slice-tried.result.now) (sym c.requires.weights)
      (subst (ForEach (λ e. e < length c.args.errors.now.table.rows)) (sym c.as_slice-tried.ensures.value) c.in_ok-next.ensures.inside);
}

pub ways-try_each-requires : goal.ways-try_each-requires
ways-try_each-requires t c =
    let back : c.args.left - 1 + 1 ≡ c.args.left = omega (arith, c.if-left-eq0.false) in (
      search rules,
      (
        c.requires.keyed,
        (
          none-less c.args.errors.now.table c.args.left (c.args.left - 1) (omega arith) c.requires.none,
          (
            subst (HasNoFewer c.args.errors.now.table c.args.flipped.now) (sym back) c.requires.fewer,
            (
              subst (ForEach (λ e. e < length c.args.errors.now.table.rows)) (sym c.as_slice-tried.ensures.value) c.in_ok-next.ensures.inside,
              (c.requires.weights, omega (arith, c.requires.cover, c.in_ok-next.ensures.cover)),
            ),
          ),
        ),
      ),
    )

pub ways-put_back-requires-clause-inside : goal.ways-put_back-requires-clause-inside
ways-put_back-requires-clause-inside t c =
    subst (λ n. ForEach (λ e. e < n) c.as_slice-tried.result.now) (sym (c.in_ok-sum.ensures.weights ∙ c.requires.weights))
    (subst (ForEach (λ e. e < length c.args.errors.now.table.rows)) (sym c.as_slice-tried.ensures.value) c.in_ok-next.ensures.inside)

pub ways-returns-clause-count : goal.ways-returns-clause-count
ways-returns-clause-count t c =
    let table = c.args.errors.now.table in
    let s = c.args.flipped.now in
    let before = c.args.weights.now in
    let after = c.try_each.new.weights in
    let tried = c.as_slice-tried.result.now in
    let back : c.args.left - 1 + 1 ≡ c.args.left = omega (arith, c.if-left-eq0.false) in
    subst (λ n. ReportsNumber (ways table.detectors table.rows before n s) c.in_ok-sum.sum) back
    (part-whole table before after s (c.args.left - 1 + 1) c.in_ok-sum.sum c.in_ok-sum.ensures.count
    (none-after table before after s (c.args.left - 1 + 1) tried (c.in_ok-sum.ensures.weights ∙ c.requires.weights)
    (subst (λ n. MeetsEach table before s n tried) (sym back)
    (subst (λ (xs : List ℕ). MeetsEach table before s c.args.left xs) (sym c.as_slice-tried.ensures.value) c.in_ok-next.ensures.meet))
    c.in_ok-sum.ensures.zero c.in_ok-sum.ensures.others))

pub ways-returns-clause-weights : goal.ways-returns-clause-weights
ways-returns-clause-weights t c =
    c.put_back.ensures.back c.args.weights.now (sym c.in_ok-sum.ensures.weights)
    (λ k lt. ap (λ (xs : List ℕ). get_or xs k 0) c.as_slice-before.ensures.value ∙ c.in_ok-retained.ensures.each k lt)
    c.in_ok-sum.ensures.others

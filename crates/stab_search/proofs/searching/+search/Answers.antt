use Rattle.stab_search.proofs.Names.{rules, refl, ◌≡◌, ◌≢◌, ℕ, ◌+◌, ◌-◌, ◌∙◌, length, List, sym, ap, subst, arith, below_more, get_or, bit_xor, eqb-true, eqb-false, nil_from_length, ◌⊕◌, IsAscending, odd, row, CompletesSetWithin, NoEnds, NoEndsBy, Meet}
use Rattle.stab_search.proofs.FlipLemmas.{key-sum}
use Rattle.stab_search.proofs.EndLemmas.{no_ends-nothing, no_ends-over, no_ends-met, no_end-before, no_end-unkeyed, completes-observed, tried-none, tried-some}
use Rattle.stab_search.proofs.searching.+search.Goals as goal

pub search-returns-then-is_empty-clause-none : goal.search-returns-then-is_empty-clause-none
search-returns-then-is_empty-clause-none t c = λ none.
    no_ends-nothing c.args.errors.now.table c.args.errors.now.pairs c.args.first c.args.path.now.items c.args.flipped.now c.args.left none
    (nil_from_length c.args.flipped.now (eqb-true (length c.args.flipped.now) 0 (sym c.if-is_empty.ensures)))

pub search-returns-then-flipped-detectors-clause-some : goal.search-returns-then-flipped-detectors-clause-some
search-returns-then-flipped-detectors-clause-some t c =
    let some : length c.args.flipped.now ≢ 0 = eqb-false (length c.args.flipped.now) 0 (sym c.if-is_empty.ensures) in
    subst (CompletesSetWithin c.args.errors.now.table c.args.flipped.now c.args.left) (sym c.new.ensures.items)
    (record {
      ends = completes-observed c.args.errors.now.table c.args.flipped.now c.requires.keyed.ascending (omega (arith, some))
          (omega (arith, c.if-flipped-detectors.true, c.detectors.ensures.value));
      within = omega arith;
    })

pub search-returns-then-left-eq0-clause-none : goal.search-returns-then-left-eq0-clause-none
search-returns-then-left-eq0-clause-none t c = λ none.
    let some : length c.args.flipped.now ≢ 0 = eqb-false (length c.args.flipped.now) 0 (sym c.if-is_empty.ensures) in
    no_ends-over c.args.errors.now.table c.args.errors.now.pairs c.args.first c.args.path.now.items c.args.flipped.now c.args.left c.requires.keyed.ascending
    (omega (arith, some)) (omega (arith, c.if-flipped-detectors.false, c.detectors.ensures.value)) c.if-left-eq0.true

pub search-tries-init : goal.search-tries-init
search-tries-init t c = record { cover = omega (arith, c.requires.cover, c.in_ok-tried.ensures.cover); path = refl; tried = λ none k lt. absurd (omega arith) }

pub search-tries-preserved : goal.search-tries-preserved
search-tries-preserved t c =
    let back : c.args.left - 1 + 1 ≡ c.args.left = omega (arith, c.if-left-eq0.false) in record {
      cover = omega (arith, c.tries.invariant.cover, c.in_ok-found.ensures.cover);
      path = (rw c.in_default.is at c.in_ok-found.ensures.path) ∙ c.tries.invariant.path;
      tried = λ none. below_more _ _ (c.tries.invariant.tried none)
          (subst (λ n. NoEndsBy c.args.errors.now.table c.args.errors.now.pairs c.args.first c.args.path.now.items c.args.flipped.now n (get_or c.as_slice-g-items.result.now c.tries.g-index 0)) back
          (subst (λ (xs : List ℕ). NoEndsBy c.args.errors.now.table c.args.errors.now.pairs c.args.first xs c.args.flipped.now (c.args.left - 1 + 1) (get_or c.as_slice-g-items.result.now c.tries.g-index 0))
          c.tries.invariant.path (rw c.in_default.is at c.in_ok-found.ensures.none (λ errors e. omega (arith, none errors e)))));
    }

pub search-returns-clause-none : goal.search-returns-clause-none
search-returns-clause-none t c = λ none.
    no_ends-met c.args.errors.now.table c.args.errors.now.pairs c.args.first c.args.path.now.items c.args.flipped.now c.args.left c.as_slice-g-items.result.now
    (subst (λ (xs : List ℕ). Meet c.args.errors.now.table c.args.errors.now.pairs c.args.first c.args.path.now.items c.args.flipped.now c.args.left xs)
    (sym c.as_slice-g-items.ensures.value)
    (subst (λ (xs : List ℕ). Meet c.args.errors.now.table c.args.errors.now.pairs c.args.first xs c.args.flipped.now c.args.left c.in_ok-tried.tried.items)
    c.as_slice.ensures.value c.in_ok-tried.ensures.meet))
    (λ k lt. c.tries.invariant.tried none k (omega (arith, lt, c.tries-test.false)))

pub search-returns-clause-path : goal.search-returns-clause-path
search-returns-clause-path t c = c.tries.invariant.path

pub try_error-returns-then-g-first-clause-none : goal.try_error-returns-then-g-first-clause-none
try_error-returns-then-g-first-clause-none t c = λ none.
    no_end-before c.args.errors.now.table c.args.errors.now.pairs c.args.first c.args.path.now.items c.args.flipped.now (c.args.left + 1) c.args.g c.if-g-first.true

pub try_error-returns-then-not-has_key-clause-none : goal.try_error-returns-then-not-has_key-clause-none
try_error-returns-then-not-has_key-clause-none t c = λ none.
    let two : 2 ≡ c.args.left + 1 = omega (arith, c.if-left-eq1.true) in
    subst (λ n. NoEndsBy c.args.errors.now.table c.args.errors.now.pairs c.args.first c.args.path.now.items c.args.flipped.now n c.args.g) two
    (no_end-unkeyed c.args.errors.now.table c.args.errors.now.numbers c.args.errors.now.pairs c.args.first c.args.path.now.items c.args.flipped.now
    c.key.ensures.numbered c.args.g
    (λ r lt same. c.has_key.ensures.not c.if-not-has_key.true r lt
    (same ∙ (λ i. bit_xor (sym c.requires.keyed.value i) (sym c.key.ensures.value i)))))

pub try_error-returns-in-None-clause-none : goal.try_error-returns-in-None-clause-none
try_error-returns-in-None-clause-none t c = λ none.
    tried-none c.args.errors.now.table c.args.flipped.now c.as_slice.result.now c.args.g
    (λ d. ap (odd d) c.as_slice.ensures.value ∙ c.in_ok-merge_into.ensures.odd d ∙ ap (λ (xs : List ℕ). odd d c.args.flipped.now ⊕ odd d xs) c.row.ensures.value)
    c.args.errors.now.pairs c.args.first c.args.left c.args.path.now.items
    (subst (λ (xs : List ℕ). NoEnds c.args.errors.now.table c.args.errors.now.pairs c.args.first xs c.as_slice.result.now c.args.left) c.in_ok-push.ensures.items
    ((rw c.in-None.is at c.in_ok-search.ensures.none) none))

pub try_error-returns-in_ok-push-in-Some-clause-some : goal.try_error-returns-in_ok-push-in-Some-clause-some
try_error-returns-in_ok-push-in-Some-clause-some t c =
    subst (CompletesSetWithin c.args.errors.now.table c.args.flipped.now (c.args.left + 1)) (sym c.in_ok-push-in-Some.ensures.items)
    (tried-some c.args.errors.now.table c.args.flipped.now c.as_slice.result.now c.args.g
    (λ d. ap (odd d) c.as_slice.ensures.value ∙ c.in_ok-merge_into.ensures.odd d ∙ ap (λ (xs : List ℕ). odd d c.args.flipped.now ⊕ odd d xs) c.row.ensures.value)
    c.args.left c.in-Some.rest.items c.requires.inside (rw c.in-Some.is at c.in_ok-search.ensures.some))

pub try_error-search-requires : goal.try_error-search-requires
try_error-search-requires t c = (
  search rules,
  (
    record {
      ascending = subst IsAscending (sym c.as_slice.ensures.value) c.in_ok-merge_into.ensures.ascending;
      value =
          (λ i. bit_xor (c.requires.keyed.value i) (c.key.ensures.value i))
          ∙ sym (key-sum c.args.errors.now.numbers c.as_slice.result.now c.args.flipped.now (row c.args.errors.now.table.rows c.args.g)
          (λ d lt. ap (odd d) c.as_slice.ensures.value ∙ c.in_ok-merge_into.ensures.odd d ∙ ap (λ (xs : List ℕ). odd d c.args.flipped.now ⊕ odd d xs) c.row.ensures.value));
    },
    c.requires.cover,
  ),
)

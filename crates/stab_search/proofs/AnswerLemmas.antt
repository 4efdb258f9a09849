-- Answers: each table has one, since all lists of a number of rows can be tried.
use Rattle.stab_search.proofs.Names.{◌≡◌, ℕ, zero, suc, ◌+◌, ◌≤◌, ◌<◌, ◌⊎◌, inl, inr, refl, sym, ◌∙◌, subst, arith, Bool, true, false, List, [], ◌∷◌, ◌++◌, length, append-nil, append_assoc, ◌^◌, Vec, null_ptr, cases_lt, false≢true, ◌⊕◌, Answer, Least, NoneWithin, NoneAtAll, ErrorTable, odd, flipped_by_rows, IsLogicalError, IsLeast, HasSome, HasNoneWithin, IsLeastAnswer, ForEach}
use Rattle.std.proofs.lemmas.Bool.{ne_eqb}
use Rattle.stab_search.proofs.FlipLemmas.{named_by, odd-named}
use Rattle.stab_search.proofs.ListLemmas.{by-bit, all-each, each-all, each-push}
use Rattle.stab_search.proofs.ShortestLemmas.{gathering, gathered-logical, none-empty, none-up_to}

-- numbers below an end, each of which has a property or not: one has it, or none

tried : (P : ℕ → Type 0) (end : ℕ) → ((k : ℕ) → k < end → P k ⊎ (P k → ⊥)) → ((k : ℕ) × (k < end) × P k) ⊎ ((k : ℕ) → k < end → P k → ⊥)
tried P zero each = inr (λ k lt is. omega (arith, lt))
tried P (suc end) each = by_last (each end (omega arith)) (tried P end (λ k lt. each k (omega (arith, lt))))
  where
    last : (k : ℕ) → k < suc end → (P end → ⊥) → ((j : ℕ) → j < end → P j → ⊥) → P k → ⊥
    last k lt never none is = by_position (cases_lt k end)
      where
        by_position : (k < end) ⊎ (end ≤ k) → ⊥
        by_position (inl less) = none k less is
        by_position (inr le) = let same : k ≡ end = omega (arith, lt, le) in never (subst P same is)

    by_last : P end ⊎ (P end → ⊥) → ((k : ℕ) × (k < end) × P k) ⊎ ((k : ℕ) → k < end → P k → ⊥) → ((k : ℕ) × (k < suc end) × P k) ⊎ ((k : ℕ) → k < suc end → P k → ⊥)
    by_last (inl is) earlier = inl (end, omega arith, is)
    by_last (inr never) (inl found) = inl (found.0, omega (arith, found.1), found.2)
    by_last (inr never) (inr none) = inr (λ k lt. last k lt never none)

-- a number past all of a list
end-of : (is : List ℕ) → (end : ℕ) × ((i : ℕ) → end ≤ i → odd i is ≡ false)
end-of [] = (0, λ i le. refl)
end-of (k ∷ ks) =
    let later = end-of ks in
    (suc (k + later.0), λ i le. (λ t. ne_eqb k i (λ e. omega (arith, le, e)) t ⊕ later.1 i (omega (arith, le)) t))

false-or-true : (b : Bool) → b ≡ true → b ≡ false → ⊥
false-or-true b is other = false≢true (sym other ∙ is)

module _ (t : ErrorTable) where
  abbrev Inside : ℕ → Type 0
  Inside r = r < length t.rows

  -- rows are a logical error or not

  module _ (errors : List ℕ) where
    abbrev Flipped : ℕ → Type 0
    Flipped i = flipped_by_rows t.rows errors i ≡ true

    abbrev Observed : ℕ → Type 0
    Observed o = (t.detectors ≤ o) × Flipped o

    flipped : (i : ℕ) → Flipped i ⊎ (Flipped i → ⊥)
    flipped i = by-bit (flipped_by_rows t.rows errors i) inl (λ e. inr (λ is. false-or-true (flipped_by_rows t.rows errors i) is e))

    observed : (o : ℕ) → Observed o ⊎ (Observed o → ⊥)
    observed o = by_position (cases_lt o t.detectors) (flipped o)
      where
        by_position : (o < t.detectors) ⊎ (t.detectors ≤ o) → Flipped o ⊎ (Flipped o → ⊥) → Observed o ⊎ (Observed o → ⊥)
        by_position (inl lt) bit = inr (λ is. omega (arith, lt, is.0))
        by_position (inr le) (inl is) = inl (le, is)
        by_position (inr le) (inr never) = inr (λ is. never is.1)

    abbrev end : ℕ
    end = (end-of (named_by t.rows errors)).0

    below : (o : ℕ) → Flipped o → o < end
    below o is = by_position (cases_lt o end)
      where
        by_position : (o < end) ⊎ (end ≤ o) → o < end
        by_position (inl lt) = lt
        by_position (inr le) = absurd (false-or-true (flipped_by_rows t.rows errors o) is (sym (odd-named t.rows errors o) ∙ (end-of (named_by t.rows errors)).1 o le))

    is-logical : ForEach Inside errors → IsLogicalError t errors ⊎ (IsLogicalError t errors → ⊥)
    is-logical inside = by_detectors (tried Flipped t.detectors (λ d lt. flipped d))
      where
        by_observables : ((d : ℕ) → d < t.detectors → Flipped d → ⊥) → ((o : ℕ) × (o < end) × Observed o) ⊎ ((o : ℕ) → o < end → Observed o → ⊥)
            → IsLogicalError t errors ⊎ (IsLogicalError t errors → ⊥)
        by_observables undetected (inl found) = inl (record {
          inside = all-each Inside errors inside;
          undetected = λ d lt. by-bit (flipped_by_rows t.rows errors d) (λ e. absurd (undetected d lt e)) (λ e. e);
          observed = (found.0, found.2.0, found.2.1);
        })
        by_observables undetected (inr none) = inr (λ e. none e.observed.0 (below e.observed.0 e.observed.2) (e.observed.1, e.observed.2))

        by_detectors : ((d : ℕ) × (d < t.detectors) × Flipped d) ⊎ ((d : ℕ) → d < t.detectors → Flipped d → ⊥) → IsLogicalError t errors ⊎ (IsLogicalError t errors → ⊥)
        by_detectors (inl found) = inr (λ e. false-or-true (flipped_by_rows t.rows errors found.0) found.2 (e.undetected found.0 found.1))
        by_detectors (inr none) = by_observables none (tried Observed end (λ o lt. observed o))

  -- rows chosen, and this number more

  abbrev Completes : (size : ℕ) (chosen : List ℕ) → Type 0
  Completes size chosen = (more : List ℕ) × (length more ≡ size) × IsLogicalError t (chosen ++ more)

  next-inside : (chosen : List ℕ) (r : ℕ) (more : List ℕ) → ForEach Inside (chosen ++ r ∷ more) → Inside r
  next-inside [] r more inside = inside.0
  next-inside (x ∷ xs) r more inside = next-inside xs r more inside.1

  no-more : (chosen more : List ℕ) → length more ≡ 0 → IsLogicalError t (chosen ++ more) → IsLogicalError t chosen
  no-more chosen [] none e = subst (IsLogicalError t) (append-nil chosen) e
  no-more chosen (x ∷ xs) none e = absurd (omega (arith, none))

  one-more : (size : ℕ) (chosen : List ℕ) → Completes (suc size) chosen → (r : ℕ) × Inside r × Completes size (chosen ++ r ∷ [])
  one-more size chosen ([], count, e) = absurd (omega (arith, count))
  one-more size chosen (r ∷ more, count, e) = (
    r,
    next-inside chosen r more (each-all Inside (chosen ++ r ∷ more) e.inside),
    (more, omega (arith, count), subst (IsLogicalError t) (sym (append_assoc chosen (r ∷ []) more)) e),
  )

  completes : (size : ℕ) (chosen : List ℕ) → ForEach Inside chosen → Completes size chosen ⊎ (Completes size chosen → ⊥)
  completes zero chosen inside = by_logical (is-logical chosen inside)
    where
      by_logical : IsLogicalError t chosen ⊎ (IsLogicalError t chosen → ⊥) → Completes zero chosen ⊎ (Completes zero chosen → ⊥)
      by_logical (inl e) = inl ([], refl, subst (IsLogicalError t) (sym (append-nil chosen)) e)
      by_logical (inr never) = inr (λ found. never (no-more chosen found.0 found.1 found.2))
  completes (suc size) chosen inside =
      by_next (tried (λ r. Completes size (chosen ++ r ∷ [])) (length t.rows) (λ r lt. completes size (chosen ++ r ∷ []) (each-push Inside chosen r lt inside)))
    where
      by_next : ((r : ℕ) × Inside r × Completes size (chosen ++ r ∷ [])) ⊎ ((r : ℕ) → Inside r → Completes size (chosen ++ r ∷ []) → ⊥)
          → Completes (suc size) chosen ⊎ (Completes (suc size) chosen → ⊥)
      by_next (inl found) =
          inl (found.0 ∷ found.2.0, omega (arith, found.2.1), subst (IsLogicalError t) (append_assoc chosen (found.0 ∷ []) found.2.0) found.2.2)
      by_next (inr none) = inr (λ found. let next = one-more size chosen found in none next.0 next.1 next.2)

  -- a least logical error of at most this many rows, or none

  shortest : (most : ℕ) → ((set : List ℕ) × IsLeast t most set) ⊎ HasNoneWithin t most
  shortest zero = inr (none-empty t)
  shortest (suc most) = by_fewer (shortest most)
    where
      by_size : HasNoneWithin t most → Completes (suc most) [] ⊎ (Completes (suc most) [] → ⊥) → ((set : List ℕ) × IsLeast t (suc most) set) ⊎ HasNoneWithin t (suc most)
      by_size none (inl found) =
          let set = gathering found.0 in
          inl (
            set.0,
            record {
              ascending = set.1.ascending;
              logical = gathered-logical t found.0 set.0 set.1 found.2;
              within = omega (arith, set.1.fewer, found.1);
              least = λ others e. omega (arith, set.1.fewer, found.1, none others e);
            },
          )
      by_size none (inr never) = inr (λ errors e. by_position errors e (cases_lt (suc most) (length errors)))
        where
          by_position : (errors : List ℕ) → IsLogicalError t errors → (suc most < length errors) ⊎ (length errors ≤ suc most) → suc most < length errors
          by_position errors e (inl lt) = lt
          by_position errors e (inr le) = absurd (never (errors, omega (arith, le, none errors e), e))

      by_fewer : ((set : List ℕ) × IsLeast t most set) ⊎ HasNoneWithin t most → ((set : List ℕ) × IsLeast t (suc most) set) ⊎ HasNoneWithin t (suc most)
      by_fewer (inl (set, is)) = inl (set, record { ascending = is.ascending; logical = is.logical; within = omega (arith, is.within); least = is.least })
      by_fewer (inr none) = by_size none (completes (suc most) [] tt)

  -- so there is an answer

  -- numbers as a list in memory
  abbrev held : (numbers : List ℕ) → length numbers < 2 ^ 63 → Vec ℕ
  held numbers few = record {
    ptr = null_ptr;
    len = length numbers;
    cap = length numbers;
    alloc = record { memory = record { seal = tt } };
    items = numbers;
    ok = (refl, omega arith);
    small = few;
  }

  -- if there is a logical error, there is a least one
  pub least-of : HasSome t → (most : ℕ) × (set : List ℕ) × IsLeast t most set
  least-of (errors, e) = by_shortest (shortest (length errors))
    where
      by_shortest : ((set : List ℕ) × IsLeast t (length errors) set) ⊎ HasNoneWithin t (length errors) → (most : ℕ) × (set : List ℕ) × IsLeast t most set
      by_shortest (inl (set, is)) = (length errors, set, is)
      by_shortest (inr none) = let less : length errors < length errors = none errors e in absurd (omega (arith, less))

  pub answer : (most : ℕ) → most < 2 ^ 63 → (a : Answer) × IsLeastAnswer t most a
  answer most few = by_shortest (shortest most)
    where
      by_any : HasNoneWithin t most → ((set : List ℕ) × IsLeast t (length t.rows) set) ⊎ HasNoneWithin t (length t.rows) → (a : Answer) × IsLeastAnswer t most a
      by_any none (inl (set, is)) = (NoneWithin, (none, (set, is.logical)))
      by_any none (inr never) =
          (NoneAtAll, λ errors e. let less : length errors < length errors = none-up_to t (length errors) (length t.rows) (omega arith) never errors e in omega (arith, less))

      by_shortest : ((set : List ℕ) × IsLeast t most set) ⊎ HasNoneWithin t most → (a : Answer) × IsLeastAnswer t most a
      by_shortest (inr none) = by_any none (shortest (length t.rows))
      by_shortest (inl (set, is)) = (Least (held set (omega (arith, few, is.within))), is)

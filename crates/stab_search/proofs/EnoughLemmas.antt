-- Errors that are enough: what holds of their logical errors holds of the table's.
use Rattle.stab_search.proofs.Names.{◌≡◌, ℕ, ◌≤◌, ◌<◌, refl, sym, ◌∙◌, ap, subst, arith, List, [], ◌∷◌, length, map, slice_index, ◌⊕◌, ErrorTable, odd, row, flipped_by_rows, IsLogicalError, HasNone, HasSome, HasNoneWithin, ForEach, AreRowsOf, IsLogicalWithin, IsLogicalSet, IsGathered, HaveClasses, Splits, ErrorsAreEnough, length-map}
use Rattle.stab_search.proofs.ListLemmas.{each-all, all-each}
use Rattle.stab_search.proofs.ClassLemmas.{enough-classes}
use Rattle.stab_search.proofs.ShortestLemmas.{gathered-logical}

module _ (rows chosen : List (List ℕ)) (numbers : List ℕ) (are : AreRowsOf rows chosen numbers) where
  numbers-inside : (xs : List ℕ) → ForEach (λ k. k < length chosen) xs → ForEach (λ r. r < length rows) (map (slice_index numbers) xs)
  numbers-inside [] a = tt
  numbers-inside (x ∷ xs) a = ((are.same x a.0).0, numbers-inside xs a.1)

  numbers-flips : (xs : List ℕ) → ForEach (λ k. k < length chosen) xs → (i : ℕ) → flipped_by_rows rows (map (slice_index numbers) xs) i ≡ flipped_by_rows chosen xs i
  numbers-flips [] a i = refl
  numbers-flips (x ∷ xs) a i =
      ap (λ b. odd i (row rows (slice_index numbers x)) ⊕ b) (numbers-flips xs a.1 i)
      ∙ ap (λ (ys : List ℕ). odd i ys ⊕ flipped_by_rows chosen xs i) (sym (are.same x a.0).1)

-- a logical error of errors that are enough is one of the table, by their numbers there
logical-enough : (t fewer : ErrorTable) (numbers : List ℕ) → ErrorsAreEnough t fewer numbers → (errors : List ℕ) → IsLogicalError fewer errors
    → IsLogicalError t (map (slice_index numbers) errors)
logical-enough t fewer numbers is errors e =
    let a = each-all (λ k. k < length fewer.rows) errors e.inside in
    record {
      inside = all-each (λ r. r < length t.rows) (map (slice_index numbers) errors) (numbers-inside t.rows fewer.rows numbers is.rows errors a);
      undetected = λ d lt. numbers-flips t.rows fewer.rows numbers is.rows errors a d ∙ e.undetected d (subst (λ n. d < n) (sym is.detectors) lt);
      observed = let o = e.observed.0 in
          (o, subst (λ n. n ≤ o) is.detectors e.observed.1, numbers-flips t.rows fewer.rows numbers is.rows errors a o ∙ e.observed.2);
    }

module _ (t fewer : ErrorTable) (numbers : List ℕ) (is : ErrorsAreEnough t fewer numbers) where
  pub none-enough : HasNone fewer → HasNone t
  none-enough none errors logical = let other = is.enough errors logical in none other.0 other.1.0

  pub none-within_enough : (k : ℕ) → HasNoneWithin fewer k → HasNoneWithin t k
  none-within_enough k none errors logical =
      let other = is.enough errors logical in
      let more = none other.0 other.1.0 in
      let few = other.1.1 in
      omega arith

  pub none-within_fewer : (k : ℕ) → HasNoneWithin t k → HasNoneWithin fewer k
  none-within_fewer k none errors logical =
      let more = none (map (slice_index numbers) errors) (logical-enough t fewer numbers is errors logical) in
      let same = length-map errors (slice_index numbers) in
      omega arith

  pub some-enough : HasSome fewer → HasSome t
  some-enough (errors, e) = (map (slice_index numbers) errors, logical-enough t fewer numbers is errors e)

  -- the set of the table's errors that a logical error is
  pub set-enough : (most : ℕ) (found set : List ℕ) → IsLogicalWithin fewer most found → IsGathered (map (slice_index numbers) found) set → IsLogicalSet t most set
  set-enough most found set s g =
      let same = length-map found (slice_index numbers) in
      let shorter = g.fewer in
      let within = s.within in
      record {
        ascending = g.ascending;
        logical = gathered-logical t (map (slice_index numbers) found) set g (logical-enough t fewer numbers is found s.logical);
        within = omega arith;
      }

-- of errors that are enough, those of one class each are
pub fewer-enough : (t fewer : ErrorTable) (numbers : List ℕ) → ErrorsAreEnough t fewer numbers
    → (preserved : ErrorTable) (classes chosen : List ℕ) → preserved.detectors ≡ fewer.detectors → AreRowsOf t.rows preserved.rows chosen → HaveClasses preserved classes
    → ((r : ℕ) → r < length fewer.rows → Splits preserved classes (row fewer.rows r)) → ErrorsAreEnough t preserved chosen
fewer-enough t fewer numbers is preserved classes chosen same rows have split = record {
  detectors = same ∙ is.detectors;
  rows = rows;
  enough = λ errors logical.
      let other = is.enough errors logical in
      let parts = enough-classes fewer preserved classes same have split other.0 other.1.0 in
      let few = other.1.1 in
      let fewer_still = parts.1.1 in
      (parts.0, (parts.1.0, omega arith));
}

-- of errors that are enough, others can be enough again, by their numbers in the table
pub enough-again : (t fewer part : ErrorTable) (numbers chosen found : List ℕ) → ErrorsAreEnough t fewer numbers → ErrorsAreEnough fewer part chosen → length found ≡ length chosen
    → ((k : ℕ) → k < length chosen → slice_index found k ≡ slice_index numbers (slice_index chosen k)) → ErrorsAreEnough t part found
enough-again t fewer part numbers chosen found outer inner count each = record {
  detectors = inner.detectors ∙ outer.detectors;
  rows = record {
    count = count ∙ inner.rows.count;
    same = λ k lt.
        let here = inner.rows.same k lt in
        let there = outer.rows.same (slice_index chosen k) here.0 in
        let is = each k (subst (λ n. k < n) (sym inner.rows.count) lt) in
        (subst (λ r. r < length t.rows) (sym is) there.0, here.1 ∙ there.1 ∙ ap (row t.rows) (sym is));
  };
  enough = λ errors logical.
      let first = outer.enough errors logical in
      let second = inner.enough first.0 first.1.0 in
      let few = first.1.1 in
      let fewer_still = second.1.1 in
      (second.0, (second.1.0, omega arith));
}

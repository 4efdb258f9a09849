-- Distinct rows: what holds of them holds of the table.
use Rattle.stab_search.proofs.Names.{◌≡◌, ℕ, suc, ◌<◌, refl, sym, ◌∙◌, ap, subst, arith, List, [], ◌∷◌, length, ◌⊕◌, ErrorTable, odd, row, flipped_by_rows, IsLogicalError, HasNone, ForEach, AreRowsOf, HasRow, HasBound, ErrorsAreEnough}
use Rattle.stab_search.proofs.ListLemmas.{each-all, all-each}

module _ (detectors : ℕ) (rows chosen : List (List ℕ)) (all : (r : ℕ) → r < length rows → HasRow chosen (row rows r)) where
  abbrev whole : ErrorTable
  whole = record { detectors = detectors; rows = rows }

  abbrev part : ErrorTable
  part = record { detectors = detectors; rows = chosen }

  -- the same errors, by their rows among the chosen ones
  abbrev reps : (xs : List ℕ) → ForEach (λ r. r < length rows) xs → List ℕ
  reps [] a = []
  reps (x ∷ xs) a = (all x a.0).0 ∷ reps xs a.1

  reps-inside : (xs : List ℕ) (a : ForEach (λ r. r < length rows) xs) → ForEach (λ r. r < length chosen) (reps xs a)
  reps-inside [] a = tt
  reps-inside (x ∷ xs) a = ((all x a.0).1, reps-inside xs a.1)

  reps-flips : (xs : List ℕ) (a : ForEach (λ r. r < length rows) xs) (i : ℕ) → flipped_by_rows chosen (reps xs a) i ≡ flipped_by_rows rows xs i
  reps-flips [] a i = refl
  reps-flips (x ∷ xs) a i =
      ap (λ b. odd i (row chosen (all x a.0).0) ⊕ b) (reps-flips xs a.1 i)
      ∙ ap (λ (ys : List ℕ). odd i ys ⊕ flipped_by_rows rows xs i) (all x a.0).2

  reps-length : (xs : List ℕ) (a : ForEach (λ r. r < length rows) xs) → length (reps xs a) ≡ length xs
  reps-length [] a = refl
  reps-length (x ∷ xs) a = ap suc (reps-length xs a.1)

  reps-logical : (xs : List ℕ) (a : ForEach (λ r. r < length rows) xs) → IsLogicalError whole xs → IsLogicalError part (reps xs a)
  reps-logical xs a e = record {
    inside = all-each (λ r. r < length chosen) (reps xs a) (reps-inside xs a);
    undetected = λ d lt. reps-flips xs a d ∙ e.undetected d lt;
    observed = (e.observed.0, e.observed.1, reps-flips xs a e.observed.0 ∙ e.observed.2);
  }

  pub none-whole : HasNone part → HasNone whole
  none-whole none errors logical =
      let a = each-all (λ r. r < length rows) errors logical.inside in
      none (reps errors a) (reps-logical errors a logical)

  pub bound-whole : (bound : ℕ) → HasBound part bound → HasBound whole bound
  bound-whole bound has errors logical =
      let a = each-all (λ r. r < length rows) errors logical.inside in
      let same = reps-length errors a in
      let more = has (reps errors a) (reps-logical errors a logical) in
      omega arith

-- the same if the table of the chosen rows is that of calls

module _ (t part : ErrorTable) (detectors : ℕ) (chosen : List (List ℕ)) (is : part ≡ record { detectors = detectors; rows = chosen }) (same : detectors ≡ t.detectors)
    (all : (r : ℕ) → r < length t.rows → HasRow chosen (row t.rows r)) where
  is_part : part ≡ record { detectors = t.detectors; rows = chosen }
  is_part = is ∙ ap {B = ErrorTable} (λ d. record { detectors = d; rows = chosen }) same

  pub none-reported : HasNone part → HasNone t
  none-reported none = none-whole t.detectors t.rows chosen all (subst HasNone is_part none)

  pub bound-reported : (bound : ℕ) → HasBound part bound → HasBound t bound
  bound-reported bound has = bound-whole t.detectors t.rows chosen all bound (subst (λ p. HasBound p bound) is_part has)

  -- the chosen rows are enough
  pub distinct-enough : (numbers : List ℕ) → AreRowsOf t.rows chosen numbers → ErrorsAreEnough t part numbers
  distinct-enough numbers are =
      subst (λ p. ErrorsAreEnough t p numbers) (sym is_part)
      (record {
        detectors = refl;
        rows = are;
        enough = λ errors logical.
            let a = each-all (λ r. r < length t.rows) errors logical.inside in
            let count = reps-length t.detectors t.rows chosen all errors a in
            (reps t.detectors t.rows chosen all errors a, (reps-logical t.detectors t.rows chosen all errors a logical, omega arith));
      })

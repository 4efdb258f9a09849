-- Parts: what holds of a table's graph-like part holds of the graph-like errors of the table.
use Rattle.stab_search.proofs.Names.{◌≡◌, ℕ, zero, suc, ◌+◌, ◌≤◌, ◌<◌, ◌⊎◌, inl, inr, refl, sym, ◌∙◌, ap, subst, arith, true, List, [], ◌∷◌, ◌++◌, length, min, All, cases_lt, ◌⊕◌, Answer, Least, NoneWithin, NoneAtAll, ErrorTable, odd, row, flipped_by_rows, IsLogicalError, HasNoneWithin, IsLeast, IsLeastAnswer, IsGraphlike, IsGraphlikeError, IsLeastGraphlike, HasNoGraphlikeWithin, IsGraphlikeAnswer, ForEach, has, IsGraphlikePart}
use Rattle.stab_search.proofs.ListLemmas.{each-all, all-each, each-has, each-without, has-here, has-there, without, length-without}
use Rattle.stab_search.proofs.FlipLemmas.{flips-without}
use Rattle.stab_search.proofs.ShortestLemmas.{none-up_to_each}
use Rattle.stab_search.proofs.AnswerLemmas.{least-of}

module _ (t part : ErrorTable) (is : IsGraphlikePart t part) where
  abbrev Inside : ℕ → Type 0
  Inside r = r < length part.rows

  abbrev Graphlike : ℕ → Type 0
  Graphlike r = IsGraphlike t.detectors (row t.rows r)

  flips-same : (xs : List ℕ) → ForEach Inside xs → ForEach Graphlike xs → (i : ℕ) → flipped_by_rows part.rows xs i ≡ flipped_by_rows t.rows xs i
  flips-same [] a g i = refl
  flips-same (x ∷ xs) a g i =
      ap (λ (ys : List ℕ). odd i ys ⊕ flipped_by_rows part.rows xs i) (is.rows.preserved x a.0 g.0) ∙ ap (λ b. odd i (row t.rows x) ⊕ b) (flips-same xs a.1 g.1 i)

  -- a graph-like logical error is a logical error of the part
  part-logical : (xs : List ℕ) → IsGraphlikeError t xs → IsLogicalError part xs
  part-logical xs e = record {
    inside = inside;
    undetected = λ d lt. same d ∙ e.logical.undetected d (subst (λ n. d < n) is.detectors lt);
    observed = let o = e.logical.observed.0 in (o, subst (λ n. n ≤ o) (sym is.detectors) e.logical.observed.1, same o ∙ e.logical.observed.2);
  }
    where
      inside : All Inside xs
      inside = subst (λ n. All (λ r. r < n) xs) (sym is.rows.count) e.logical.inside

      same : (i : ℕ) → flipped_by_rows part.rows xs i ≡ flipped_by_rows t.rows xs i
      same = flips-same xs (each-all Inside xs inside) (each-all Graphlike xs e.graphlike)

  -- and one of the part whose rows are graph-like is one of the table
  whole-logical : (xs : List ℕ) → IsLogicalError part xs → ForEach Graphlike xs → IsLogicalError t xs
  whole-logical xs e g = record {
    inside = subst (λ n. All (λ r. r < n) xs) is.rows.count e.inside;
    undetected = λ d lt. sym (same d) ∙ e.undetected d (subst (λ n. d < n) (sym is.detectors) lt);
    observed = let o = e.observed.0 in (o, subst (λ n. n ≤ o) is.detectors e.observed.1, sym (same o) ∙ e.observed.2);
  }
    where
      same : (i : ℕ) → flipped_by_rows part.rows xs i ≡ flipped_by_rows t.rows xs i
      same = flips-same xs (each-all Inside xs e.inside) g

  -- no row of a least logical error is empty

  fewer : (xs : List ℕ) (r : ℕ) → IsLogicalError part xs → has r xs ≡ true → row part.rows r ≡ [] → IsLogicalError part (without r xs)
  fewer xs r e among empty = record {
    inside = all-each Inside (without r xs) (each-without Inside r xs (each-all Inside xs e.inside));
    undetected = λ d lt. same d ∙ e.undetected d lt;
    observed = let o = e.observed.0 in (o, e.observed.1, same o ∙ e.observed.2);
  }
    where
      same : (i : ℕ) → flipped_by_rows part.rows (without r xs) i ≡ flipped_by_rows part.rows xs i
      same i = sym (flips-without part.rows r xs i among ∙ ap (λ (ys : List ℕ). odd i ys ⊕ flipped_by_rows part.rows (without r xs) i) empty)

  module _ (most : ℕ) (xs : List ℕ) (least : IsLeast part most xs) where
    graphlike-at : (r : ℕ) → has r xs ≡ true → Graphlike r
    graphlike-at r among = by_row (is.rows.others r (each-has Inside r xs (each-all Inside xs least.logical.inside) among))
      where
        by_row : IsGraphlike t.detectors (row t.rows r) ⊎ (row part.rows r ≡ []) → Graphlike r
        by_row (inl graphlike) = graphlike
        by_row (inr empty) =
            let more = least.least (without r xs) (fewer xs r least.logical among empty) in
            let one_less = length-without r xs among in
            absurd (omega arith)

    each-among : (ys : List ℕ) → ((r : ℕ) → has r ys ≡ true → Graphlike r) → ForEach Graphlike ys
    each-among [] all = tt
    each-among (y ∷ ys) all = (all y (has-here y ys), each-among ys (λ r there. all r (has-there r y ys there)))

    least-graphlike : IsLeastGraphlike t most xs
    least-graphlike =
        let g = each-among xs graphlike-at in
        record {
          ascending = least.ascending;
          logical = record { logical = whole-logical xs least.logical g; graphlike = all-each Graphlike xs g };
          within = least.within;
          least = λ others e. least.least others (part-logical others e);
        }

  pub part-none : (most : ℕ) → HasNoneWithin part most → HasNoGraphlikeWithin t most
  part-none most none errors e = none errors (part-logical errors e)

  pub part-answer : (most : ℕ) (answer : Answer) → IsLeastAnswer part most answer → IsGraphlikeAnswer t most answer
  part-answer most (Least errors) least = least-graphlike most errors.items least
  part-answer most NoneWithin none =
      let set = least-of part none.1 in
      (part-none most none.0, (set.1, (least-graphlike set.0 set.1 set.2).logical))
  part-answer most NoneAtAll none = λ errors e. none errors (part-logical errors e)

-- no graph-like logical error has more errors than the table
pub graphlike-up_to : (t : ErrorTable) (most reached : ℕ) → min most (length t.rows) ≤ reached → ((errors : List ℕ) → IsGraphlikeError t errors → reached < length errors)
    → (errors : List ℕ) → IsGraphlikeError t errors → most < length errors
graphlike-up_to t most reached le none errors e =
    none-up_to_each t (λ r. IsGraphlike t.detectors (row t.rows r)) most reached le
    (λ xs logical each. none xs (record { logical = logical; graphlike = all-each (λ r. IsGraphlike t.detectors (row t.rows r)) xs each }))
    errors e.logical (each-all (λ r. IsGraphlike t.detectors (row t.rows r)) errors e.graphlike)

-- one row more, at the end

row-before : (rows : List (List ℕ)) (x : List ℕ) (q : ℕ) → q < length rows → row (rows ++ x ∷ []) q ≡ row rows q
row-before [] x q lt = absurd (omega arith)
row-before (y ∷ rows) x zero lt = refl
row-before (y ∷ rows) x (suc q) lt = row-before rows x q (omega arith)

row-last : (rows : List (List ℕ)) (x : List ℕ) → row (rows ++ x ∷ []) (length rows) ≡ x
row-last [] x = refl
row-last (y ∷ rows) x = row-last rows x

module _ (detectors : ℕ) (rows part : List (List ℕ)) (x : List ℕ) (r : ℕ) (count : length part ≡ r) where
  abbrev Stored : List (List ℕ) → ℕ → Type 0
  Stored p q = IsGraphlike detectors (row rows q) → row p q ≡ row rows q

  abbrev Other : List (List ℕ) → ℕ → Type 0
  Other p q = IsGraphlike detectors (row rows q) ⊎ (row p q ≡ [])

  last : (q : ℕ) → r ≤ q → q < r + 1 → row (part ++ x ∷ []) q ≡ x
  last q more less = let end : length part ≡ q = omega arith in ap (row (part ++ x ∷ [])) (sym end) ∙ row-last part x

  pub preserved-push : ((q : ℕ) → q < r → Stored part q) → (IsGraphlike detectors (row rows r) → x ≡ row rows r) → (q : ℕ) → q < r + 1 → Stored (part ++ x ∷ []) q
  preserved-push before here q lt graphlike = by_position (cases_lt q r)
    where
      by_position : (q < r) ⊎ (r ≤ q) → row (part ++ x ∷ []) q ≡ row rows q
      by_position (inl less) = row-before part x q (omega arith) ∙ before q less graphlike
      by_position (inr more) =
          let same : q ≡ r = omega arith in
          last q more lt ∙ here (subst (λ k. IsGraphlike detectors (row rows k)) same graphlike) ∙ ap (row rows) (sym same)

  pub others-push : ((q : ℕ) → q < r → Other part q) → IsGraphlike detectors (row rows r) ⊎ (x ≡ []) → (q : ℕ) → q < r + 1 → Other (part ++ x ∷ []) q
  others-push before here q lt = by_position (cases_lt q r)
    where
      by_row : q ≡ r → r ≤ q → IsGraphlike detectors (row rows r) ⊎ (x ≡ []) → Other (part ++ x ∷ []) q
      by_row same more (inl graphlike) = inl (subst (λ k. IsGraphlike detectors (row rows k)) (sym same) graphlike)
      by_row same more (inr empty) = inr (last q more lt ∙ empty)

      by_position : (q < r) ⊎ (r ≤ q) → Other (part ++ x ∷ []) q
      by_position (inl less) = subst (λ (ys : List ℕ). IsGraphlike detectors (row rows q) ⊎ (ys ≡ [])) (sym (row-before part x q (omega arith))) (before q less)
      by_position (inr more) = by_row (omega arith) more here

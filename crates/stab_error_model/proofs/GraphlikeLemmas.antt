-- Graph-like errors: those of a table are those that flip at most two detectors by runs, and their least sets.
use Rattle.stab_error_model.proofs.Names.{◌≡◌, ℕ, ◌<◌, ◌⊎◌, refl, sym, ◌∙◌, subst, Bool, true, false, List, [], ◌∷◌, length, arith, Option, Some, All, unwrap_or, length-map, All-nil, All-cons, All-head, All-tail, All-weaker, parity-false, Items, bits_in, IsDeterministic, Answer, Least, NoneWithin, NoneAtAll, odd, IsGraphlike, IsGraphlikeError, IsLeastGraphlike, HasNoGraphlikeWithin, IsGraphlikeAnswer, graphlike-up_to, Error, single_errors_in, ErrorTableState, IsErrorTable, flip_together, AreUnseen, FlipsTwo, AreUnseenOf, NoneUnseenWithin, IsLeastSet, IsDistance, error_at, errors_at_numbers, with_observable, unroll, detectors_of, Result, Ok, Err, IfOk, Heard, ReportsSearch, ReportsUnseen}
use Rattle.std.proofs.Common.{None}
use Rattle.stab_search.specs.Tables.{ErrorTable}
use Rattle.stab_parities.specs.OddNumbers.{row}
use Rattle.stab_error_model.proofs.ObservedLemmas.{as-many-retained, same-detectors, odd-detector, from-retained, to-retained}
use Rattle.stab_error_model.proofs.UnseenLemmas.{as-many, within-asked, row-names, deterministic-number, numbers-at, logical-unseen, logical-of, heard-unseen}

module _ (n : ℕ) (items : Items) (observable : Option ℕ) (t : ErrorTableState) (table : IsErrorTable n items t) where
  abbrev rows : List (List ℕ)
  rows = t.table.rows

  abbrev sought : ErrorTable
  sought = with_observable observable t.table

  abbrev Inside : ℕ → Type 0
  Inside k = k < length rows

  abbrev Graphlike : ℕ → Type 0
  Graphlike k = IsGraphlike sought.detectors (row sought.rows k)

  one : (k : ℕ) → Inside k → All Inside (k ∷ [])
  one k less = All-cons Inside k [] less (All-nil Inside)

  detectors-are : sought.detectors ≡ detectors_of (unroll items)
  detectors-are = same-detectors t.table observable ∙ table.detectors

  -- a detector of the table that is searched is named there as in the table
  in-table : (k d : ℕ) → d < sought.detectors → odd d (row sought.rows k) ≡ odd d (row rows k)
  in-table k d before = odd-detector t.table observable k d (subst (λ m. d < m) (same-detectors t.table observable) before)

  -- a deterministic detector that an error flips by runs is named by its row
  run-names : (coins : ℕ → Bool) (k d : ℕ) → Inside k → d < bits_in items → d < sought.detectors → IsDeterministic n items d
      → odd d (row sought.rows k) ≡ flip_together n items coins (single_errors_in (error_at t.errors k)) d
  run-names coins k d less inside before is_deterministic =
      in-table k d before ∙ row-names n items observable t table coins k d less inside ((table.are_deterministic.exact d inside).1 is_deterministic)

  pub row-two : (k : ℕ) → Inside k → Graphlike k → FlipsTwo n items (error_at t.errors k)
  row-two k less graphlike = (
    graphlike.0,
    graphlike.1,
    λ coins d before is_deterministic flips.
        let within : d < sought.detectors = omega (arith, before, detectors-are) in
        graphlike.2 d within (run-names coins k d less (omega (arith, before)) within is_deterministic ∙ flips),
  )

  pub two-row : (k : ℕ) → Inside k → FlipsTwo n items (error_at t.errors k) → Graphlike k
  two-row k less two = (two.0, two.1, by_run)
    where
      coins : ℕ → Bool
      coins = λ j. false

      by_run : (d : ℕ) → d < sought.detectors → odd d (row sought.rows k) ≡ true → (d ≡ two.0) ⊎ (d ≡ two.1)
      by_run d before named =
          let is = deterministic-number n items observable t table (k ∷ []) d (one k less) (parity-false (odd d (row rows k)) ∙ sym (in-table k d before) ∙ named) in
          let is_deterministic = (table.are_deterministic.exact d is.0).0 is.1 in
          two.2 coins d (omega (arith, before, detectors-are)) is_deterministic (sym (run-names coins k d less is.0 before is_deterministic) ∙ named)

  rows-two : (ks : List ℕ) → All Inside ks → All Graphlike ks → All (FlipsTwo n items) (errors_at_numbers t.errors ks)
  rows-two [] less graphlike = All-nil (FlipsTwo n items)
  rows-two (k ∷ ks) less graphlike =
      All-cons (FlipsTwo n items) (error_at t.errors k) (errors_at_numbers t.errors ks)
      (row-two k (All-head Inside k ks less) (All-head Graphlike k ks graphlike))
      (rows-two ks (All-tail Inside k ks less) (All-tail Graphlike k ks graphlike))

  two-rows : (ks : List ℕ) → All Inside ks → All (FlipsTwo n items) (errors_at_numbers t.errors ks) → All Graphlike ks
  two-rows [] less two = All-nil Graphlike
  two-rows (k ∷ ks) less two =
      All-cons Graphlike k ks
      (two-row k (All-head Inside k ks less) (All-head (FlipsTwo n items) (error_at t.errors k) (errors_at_numbers t.errors ks) two))
      (two-rows ks (All-tail Inside k ks less) (All-tail (FlipsTwo n items) (error_at t.errors k) (errors_at_numbers t.errors ks) two))

  graphlike-unseen : (ks : List ℕ) → IsGraphlikeError sought ks → AreUnseenOf true observable n items t.errors (errors_at_numbers t.errors ks)
  graphlike-unseen ks e =
      let logical = from-retained t.table observable ks e.logical in
      logical-unseen n items observable t table true ks logical (λ asked. rows-two ks logical.inside e.graphlike)

  unseen-graphlike : (errors : List Error) → AreUnseenOf true observable n items t.errors errors → (ks : List ℕ) × IsGraphlikeError sought ks × (length ks ≡ length errors)
  unseen-graphlike errors e =
      let numbers = numbers-at n items observable t table errors e.of in (
        numbers.0,
        record {
          logical = to-retained t.table observable numbers.0 (logical-of n items observable t table numbers.0 numbers.1 (subst (AreUnseen n items observable) (sym numbers.2) e.unseen));
          graphlike = two-rows numbers.0 numbers.1 (subst (All (FlipsTwo n items)) (sym numbers.2) (e.two refl));
        },
        numbers.3,
      )

  -- answers

  least-graphlike : (most : Option ℕ) (bound : ℕ) (ks : List ℕ) → bound ≡ unwrap_or most (length rows) → IsLeastGraphlike sought bound ks
      → IsLeastSet true observable n items t.errors most ks
  least-graphlike most bound ks e least = record {
    ascending = least.ascending;
    within = within-asked n items observable t table most bound (length ks) e least.within;
    inside = All-weaker Inside (λ k. k < length t.errors) (λ k less. omega (arith, less, as-many n items observable t table)) ks (from-retained t.table observable ks least.logical.logical).inside;
    least = record {
      unseen = graphlike-unseen ks least.logical;
      least = λ others are.
          let numbers = unseen-graphlike others are in
          omega (arith, least.least numbers.0 numbers.1, numbers.2, length-map ks (error_at t.errors));
    };
  }

  pub none-graphlike-within : (most : ℕ) → HasNoGraphlikeWithin sought most → NoneUnseenWithin true observable n items t.errors most
  none-graphlike-within most none others are = let numbers = unseen-graphlike others are in omega (arith, none numbers.0 numbers.1, numbers.2)

  pub graphlike-answer : (most : Option ℕ) (bound : ℕ) (a : Answer) → bound ≡ unwrap_or most (length rows) → IsGraphlikeAnswer sought bound a → IsDistance true observable n items t.errors most a
  graphlike-answer most bound (Least ks) e is = least-graphlike most bound ks.items e is
  graphlike-answer most bound NoneAtAll e none = λ others are. let numbers = unseen-graphlike others are in none numbers.0 numbers.1
  graphlike-answer (Some w) bound NoneWithin e is =
      (none-graphlike-within w (subst (HasNoGraphlikeWithin sought) e is.0), (errors_at_numbers t.errors is.1.0, graphlike-unseen is.1.0 is.1.1))
  graphlike-answer None bound NoneWithin e is =
      let errors = is.1.0 in
      let less : length errors < length errors = graphlike-up_to sought (length errors) bound (omega (arith, e, as-many-retained t.table observable)) is.0 errors is.1.1 in
      absurd (omega (arith, less))

-- what is answered of a table in which an observable counts, or any

pub graphlike-answers : {E : Type 0} (t : ErrorTableState) (asked observable most : Option ℕ) (bound : ℕ) (searched : ErrorTable) (r : Result Answer E)
    → asked ≡ observable → bound ≡ unwrap_or most (length t.table.rows) → searched ≡ with_observable observable t.table → IfOk r (λ a. IsGraphlikeAnswer searched bound a)
    → IfOk r (λ a. (n : ℕ) (items : Items) → IsErrorTable n items t → IsDistance true asked n items t.errors most a)
graphlike-answers t asked observable most bound searched (Ok a) same e is answer = λ n items table.
    subst (λ o. IsDistance true o n items t.errors most a) (sym same)
    (graphlike-answer n items observable t table most bound a e (subst (λ s. IsGraphlikeAnswer s bound a) is answer))
graphlike-answers t asked observable most bound searched (Err x) same e is answer = tt

-- and what is heard of its search
pub graphlike-heard : {E : Type 0} (t : ErrorTableState) (asked observable most : Option ℕ) (bound : ℕ) (searched : ErrorTable) (old new : Option (List Heard)) (r : Result Answer E)
    → asked ≡ observable → bound ≡ unwrap_or most (length t.table.rows) → searched ≡ with_observable observable t.table
    → ReportsSearch (length searched.rows) bound (HasNoGraphlikeWithin searched) old new r
    → (n : ℕ) (items : Items) → IsErrorTable n items t → ReportsUnseen true asked n items t.errors most old new r
graphlike-heard t asked observable most bound searched old new r same e is reports n items table =
    subst (λ o. ReportsUnseen true o n items t.errors most old new r) (sym same)
    (heard-unseen n items observable t table true (HasNoGraphlikeWithin (with_observable observable t.table)) (none-graphlike-within n items observable t table) most bound old new r e
    (subst (λ (s : ErrorTable). ReportsSearch (length s.rows) bound (HasNoGraphlikeWithin s) old new r) is reports))

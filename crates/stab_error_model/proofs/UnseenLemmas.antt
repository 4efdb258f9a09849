-- Unseen sets: logical errors of a table of errors are sets of errors that are unseen together, and the other way round.
use Rattle.stab_error_model.proofs.Names.{◌≡◌, ℕ, ◌+◌, ◌<◌, ◌≤◌, ◌⊎◌, inl, inr, refl, sym, ap, ◌∙◌, subst, Bool, true, false, List, [], ◌∷◌, length, arith, Option, Some, None, Result, Ok, Err, IfOk, IsErrAnd, unwrap_or, All, Contains, ◌&&◌, slice_index_or, flat_map, cases_lt, get_or-map, get_or_default, length-map, All-nil, All-cons, All-head, All-tail, All-map, All-weaker, Contains-get_or, ◌⊕◌, Items, unroll, detectors_of, I, bits_in, single_error_on, in_front, odd-where, IsLogicalError, IsLeast, HasNoneWithin, HasNone, HasSome, Answer, Heard, begins, Hears, numbers_up_to, IsExcludedBy, ReportsSearch, Error, letter, single_errors_in, ErrorTableState, IsErrorTable, flip_together, flipped_by_error, flip_each, AreUnseen, FlipsTwo, AreUnseenOf, NoneUnseen, NoneUnseenWithin, SomeUnseen, IsWithinAsked, IsLeastSet, ReportsUnseen, error_at, errors_at_numbers, with_observable, IsLogicalOf}
use Rattle.stab_search.specs.Tables.{ErrorTable, flipped_by_rows}
use Rattle.stab_parities.specs.OddNumbers.{odd, row}
use Rattle.stab_error_model.proofs.ObservedLemmas.{as-many-retained, from-retained, to-retained}
use Rattle.stab_error_model.proofs.FlipLemmas.{odd-without, set, unset}

false-or-true : (b : Bool) → b ≡ true → b ≡ false → ⊥
false-or-true b is other = cc

module _ (n : ℕ) (items : Items) (observable : Option ℕ) (t : ErrorTableState) (table : IsErrorTable n items t) where
  abbrev pub rows : List (List ℕ)
  rows = t.table.rows

  abbrev D : ℕ
  D = detectors_of (unroll items)

  pub as-many : length rows ≡ length t.errors
  as-many = ap length (table.are_flipped (λ k. false)) ∙ length-map t.errors (flipped_by_error n items t.deterministic (λ k. false))

  abbrev pub Inside : ℕ → Type 0
  Inside k = k < length rows

  abbrev property : (coins : ℕ → Bool) → ℕ → ℕ → Bool
  property coins k i = slice_index_or t.deterministic i false && flip_together n items coins (single_errors_in (error_at t.errors k)) i

  row-of : (coins : ℕ → Bool) (k : ℕ) → Inside k → row rows k ≡ flipped_by_error n items t.deterministic coins (error_at t.errors k)
  row-of coins k less =
      ap (λ rs. row rs k) (table.are_flipped coins)
      ∙ get_or-map (flipped_by_error n items t.deterministic coins) t.errors k (letter (single_error_on 0 (in_front 0) I)) [] (omega (arith, less, as-many))

  -- what a row names

  pub row-names : (coins : ℕ → Bool) (k i : ℕ) → Inside k → i < bits_in items → slice_index_or t.deterministic i false ≡ true
      → odd i (row rows k) ≡ flip_together n items coins (single_errors_in (error_at t.errors k)) i
  row-names coins k i less inside is_deterministic =
      ap (odd i) (row-of coins k less)
      ∙ odd-where (property coins k) 0 (bits_in items) i (omega arith) (omega (arith, inside))
      ∙ set (slice_index_or t.deterministic i false) (flip_together n items coins (single_errors_in (error_at t.errors k)) i) is_deterministic

  row-without : (k i : ℕ) → Inside k → (i < bits_in items → slice_index_or t.deterministic i false ≡ false) → odd i (row rows k) ≡ false
  row-without k i less without =
      ap (odd i) (row-of (λ j. false) k less)
      ∙ odd-without (property (λ j. false) k) (bits_in items) i
      (λ inside. unset (slice_index_or t.deterministic i false) (flip_together n items (λ j. false) (single_errors_in (error_at t.errors k)) i) (without inside))

  -- and what rows name together

  each : (coins : ℕ → Bool) (ks : List ℕ) (i : ℕ) → All Inside ks → i < bits_in items → slice_index_or t.deterministic i false ≡ true
      → flipped_by_rows rows ks i ≡ flip_each n items coins (errors_at_numbers t.errors ks) i
  each coins [] i less inside is_deterministic = refl
  each coins (k ∷ ks) i less inside is_deterministic =
      (λ m. row-names coins k i (All-head Inside k ks less) inside is_deterministic m ⊕ each coins ks i (All-tail Inside k ks less) inside is_deterministic m)

  none : (ks : List ℕ) (i : ℕ) → All Inside ks → (i < bits_in items → slice_index_or t.deterministic i false ≡ false) → flipped_by_rows rows ks i ≡ false
  none [] i less without = refl
  none (k ∷ ks) i less without = (λ m. row-without k i (All-head Inside k ks less) without m ⊕ none ks i (All-tail Inside k ks less) without m)

  numbers-of : (ks : List ℕ) → All Inside ks → All (λ e. Contains t.errors e) (errors_at_numbers t.errors ks)
  numbers-of ks less =
      All-map (λ e. Contains t.errors e) (error_at t.errors) ks
      (All-weaker Inside (λ k. Contains t.errors (error_at t.errors k))
      (λ k inside. Contains-get_or t.errors k (letter (single_error_on 0 (in_front 0) I)) (omega (arith, inside, as-many))) ks less)

  -- a deterministic bit is flipped by runs if the rows name it
  pub together : (coins : ℕ → Bool) (ks : List ℕ) (i : ℕ) → All Inside ks → i < bits_in items → slice_index_or t.deterministic i false ≡ true
      → flip_together n items coins (flat_map single_errors_in (errors_at_numbers t.errors ks)) i ≡ flipped_by_rows rows ks i
  together coins ks i less inside is_deterministic =
      table.add (errors_at_numbers t.errors ks) i (numbers-of ks less) inside ((table.are_deterministic.exact i inside).0 is_deterministic) coins
      ∙ sym (each coins ks i less inside is_deterministic)

  -- an observed number is that of a deterministic observable

  pub deterministic-number : (ks : List ℕ) (i : ℕ) → All Inside ks → flipped_by_rows rows ks i ≡ true → (i < bits_in items) × (slice_index_or t.deterministic i false ≡ true)
  deterministic-number ks i less named = by_site (cases_lt i (bits_in items))
    where
      by_bit : i < bits_in items → (b : Bool) → slice_index_or t.deterministic i false ≡ b → slice_index_or t.deterministic i false ≡ true
      by_bit inside true e = e
      by_bit inside false e = absurd (false-or-true (flipped_by_rows rows ks i) named (none ks i less (λ k. e)))

      by_site : (i < bits_in items) ⊎ (bits_in items ≤ i) → (i < bits_in items) × (slice_index_or t.deterministic i false ≡ true)
      by_site (inl inside) = (inside, by_bit inside (slice_index_or t.deterministic i false) refl)
      by_site (inr past) = absurd (false-or-true (flipped_by_rows rows ks i) named (none ks i less (λ inside. absurd (omega (arith, inside, past)))))

  -- logical errors are unseen

  pub logical-unseen : (graphlike : Bool) (ks : List ℕ) → IsLogicalOf observable t.table ks → (graphlike ≡ true → All (FlipsTwo n items) (errors_at_numbers t.errors ks))
      → AreUnseenOf graphlike observable n items t.errors (errors_at_numbers t.errors ks)
  logical-unseen graphlike ks logical two =
      let named : flipped_by_rows rows ks (D + logical.number) ≡ true = subst (λ d. flipped_by_rows rows ks (d + logical.number) ≡ true) table.detectors logical.flipped in
      let is = deterministic-number ks (D + logical.number) logical.inside named in
      record {
        of = numbers-of ks logical.inside;
        unseen = record {
          detectors = λ coins d less same.
              let inside : d < bits_in items = omega (arith, less) in
              together coins ks d logical.inside inside ((table.are_deterministic.exact d inside).1 same) ∙ logical.undetected d (omega (arith, less, table.detectors));
          number = logical.number;
          asked = logical.asked;
          in_range = omega (arith, is.0);
          deterministic = (table.are_deterministic.exact (D + logical.number) is.0).0 is.1;
          flipped = λ coins. together coins ks (D + logical.number) logical.inside is.0 is.1 ∙ named;
        };
        two = two;
      }

  -- errors of the table have numbers

  number-of : (e : Error) → Contains t.errors e → (k : ℕ) × Inside k × (error_at t.errors k ≡ e)
  number-of e has =
      (has.0, omega (arith, has.1, as-many), get_or_default t.errors has.0 (letter (single_error_on 0 (in_front 0) I)) e has.1 ∙ has.2)

  pub numbers-at : (errors : List Error) → All (λ e. Contains t.errors e) errors → (ks : List ℕ) × All Inside ks × (errors_at_numbers t.errors ks ≡ errors) × (length ks ≡ length errors)
  numbers-at [] of = ([], All-nil Inside, refl, refl)
  numbers-at (e ∷ es) of =
      let first = number-of e (All-head (λ x. Contains t.errors x) e es of) in
      let rest = numbers-at es (All-tail (λ x. Contains t.errors x) e es of) in (
        first.0 ∷ rest.0,
        All-cons Inside first.0 rest.0 first.1 rest.1,
        (λ i. first.2 i ∷ rest.2 i),
        omega (arith, rest.3),
      )

  -- unseen errors are logical errors

  pub logical-of : (ks : List ℕ) → All Inside ks → AreUnseen n items observable (errors_at_numbers t.errors ks) → IsLogicalOf observable t.table ks
  logical-of ks less unseen = record {
    inside = less;
    undetected = λ d before. by_bit d (subst (λ e. d < e) table.detectors before) (slice_index_or t.deterministic d false) refl;
    number = unseen.number;
    asked = unseen.asked;
    flipped =
        let inside : D + unseen.number < bits_in items = omega (arith, unseen.in_range) in
        subst (λ d. flipped_by_rows rows ks (d + unseen.number) ≡ true) (sym table.detectors)
        (sym (together coins ks (D + unseen.number) less inside ((table.are_deterministic.exact (D + unseen.number) inside).1 unseen.deterministic))
        ∙ unseen.flipped coins);
  }
    where
      coins : ℕ → Bool
      coins = λ k. false

      by_bit : (d : ℕ) → d < D → (b : Bool) → slice_index_or t.deterministic d false ≡ b → flipped_by_rows rows ks d ≡ false
      by_bit d before true e =
          let inside : d < bits_in items = omega (arith, before) in
          sym (together coins ks d less inside e)
          ∙ unseen.detectors coins d before ((table.are_deterministic.exact d inside).0 e)
      by_bit d before false e = none ks d less (λ inside. e)

  -- the table that is searched
  abbrev pub sought : ErrorTable
  sought = with_observable observable t.table

  pub as-many-sought : length sought.rows ≡ length rows
  as-many-sought = as-many-retained t.table observable

  unseen-logical : (errors : List Error) → AreUnseenOf false observable n items t.errors errors → (ks : List ℕ) × IsLogicalError sought ks × (length ks ≡ length errors)
  unseen-logical errors unseen =
      let numbers = numbers-at errors unseen.of in
      (numbers.0, to-retained t.table observable numbers.0 (logical-of numbers.0 numbers.1 (subst (AreUnseen n items observable) (sym numbers.2) unseen.unseen)), numbers.3)

  -- answers

  pub within-asked : (most : Option ℕ) (bound k : ℕ) → bound ≡ unwrap_or most (length rows) → k ≤ bound → IsWithinAsked most k
  within-asked (Some w) bound k e le = omega (arith, e, le)
  within-asked None bound k e le = tt

  pub least-unseen : (most : Option ℕ) (bound : ℕ) (ks : List ℕ) → bound ≡ unwrap_or most (length rows) → IsLeast sought bound ks → IsLeastSet false observable n items t.errors most ks
  least-unseen most bound ks e least = record {
    ascending = least.ascending;
    within = within-asked most bound (length ks) e least.within;
    inside = All-weaker Inside (λ k. k < length t.errors) (λ k less. omega (arith, less, as-many)) ks (from-retained t.table observable ks least.logical).inside;
    least = record {
      unseen = logical-unseen false ks (from-retained t.table observable ks least.logical) (λ asked. absurd (cc));
      least = λ others are.
          let numbers = unseen-logical others are in
          omega (arith, least.least numbers.0 numbers.1, numbers.2, length-map ks (error_at t.errors));
    };
  }

  pub some-unseen : HasSome sought → SomeUnseen false observable n items t.errors
  some-unseen (ks, logical) = (errors_at_numbers t.errors ks, logical-unseen false ks (from-retained t.table observable ks logical) (λ asked. absurd (cc)))

  pub none-unseen-within : (most : ℕ) → HasNoneWithin sought most → NoneUnseenWithin false observable n items t.errors most
  none-unseen-within most none others are = let numbers = unseen-logical others are in omega (arith, none numbers.0 numbers.1, numbers.2)

  pub none-unseen : HasNone sought → NoneUnseen false observable n items t.errors
  none-unseen none others are = let numbers = unseen-logical others are in none numbers.0 numbers.1

  -- what is heard

  pub heard-unseen : {E : Type 0} (graphlike : Bool) (has_none : ℕ → Type 0) → ((k : ℕ) → has_none k → NoneUnseenWithin graphlike observable n items t.errors k)
      → (most : Option ℕ) (bound : ℕ) (old new : Option (List Heard)) (r : Result Answer E) → bound ≡ unwrap_or most (length rows)
      → ReportsSearch (length sought.rows) bound has_none old new r → ReportsUnseen graphlike observable n items t.errors most old new r
  heard-unseen {E} graphlike has_none none most bound old new r e reports = by_observable observable r searched
    where
      searched : ReportsSearch (length t.errors) (unwrap_or most (length t.errors)) (NoneUnseenWithin graphlike observable n items t.errors) old new r
      searched =
          let same : bound ≡ unwrap_or most (length t.errors) = e ∙ ap (λ k. unwrap_or most k) as-many in record {
            last = reports.last;
            none = none reports.last reports.none;
            heard = subst (λ k. Hears old new (begins k ∷ numbers_up_to reports.last)) (as-many-sought ∙ as-many) reports.heard;
            all = subst (λ k. IfOk r (λ a. IsExcludedBy k a reports.last)) same reports.all;
          }

      by_observable : (o : Option ℕ) (x : Result Answer E) → ReportsSearch (length t.errors) (unwrap_or most (length t.errors)) (NoneUnseenWithin graphlike o n items t.errors) old new x
          → ReportsUnseen graphlike o n items t.errors most old new x
      by_observable None x is = is
      by_observable (Some j) (Ok a) is = is
      by_observable (Some j) (Err x) is = inr is

-- what is heard of a search of a table in which an observable counts, or any
pub heard-of : {E : Type 0} (t : ErrorTableState) (asked observable most : Option ℕ) (bound : ℕ) (searched : ErrorTable) (old new : Option (List Heard)) (r : Result Answer E)
    → asked ≡ observable → bound ≡ unwrap_or most (length t.table.rows) → searched ≡ with_observable observable t.table
    → ReportsSearch (length searched.rows) bound (HasNoneWithin searched) old new r
    → (n : ℕ) (items : Items) → IsErrorTable n items t → ReportsUnseen false asked n items t.errors most old new r
heard-of t asked observable most bound searched old new r same e is reports n items table =
    subst (λ o. ReportsUnseen false o n items t.errors most old new r) (sym same)
    (heard-unseen n items observable t table false (HasNoneWithin (with_observable observable t.table)) (none-unseen-within n items observable t table) most bound old new r e
    (subst (λ (s : ErrorTable). ReportsSearch (length s.rows) bound (HasNoneWithin s) old new r) is reports))

-- nothing is heard of a search for one observable, if memory was refused before it began
pub unheard-of : {E : Type 0} (graphlike : Bool) (t : ErrorTableState) (asked : Option ℕ) (j : ℕ) (most : Option ℕ) (heard : Option (List Heard)) (r : Result Answer E) (x : E) → asked ≡ Some j → IsErrAnd r (λ y. y ≡ x)
    → (n : ℕ) (items : Items) → IsErrorTable n items t → ReportsUnseen graphlike asked n items t.errors most heard heard r
unheard-of graphlike t asked j most heard (Ok a) x same is n items table = absurd is
unheard-of graphlike t asked j most heard (Err y) x same is n items table = subst (λ o. ReportsUnseen graphlike o n items t.errors most heard heard (Err y)) (sym same) (inl refl)

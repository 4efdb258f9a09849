-- Counts: how many logical errors of the least size a table has is how many least unseen sets its errors have.
use Rattle.stab_error_model.proofs.Names.{◌≡◌, ℕ, ◌<◌, sym, subst, false, List, [], length, length-map, arith, Option, Some, None, Result, Ok, Err, IfOk, All-weaker, Items, Answer, NoneWithin, NoneAtAll, ErrorTableState, IsErrorTable, IsDistance, IsLeastSet, IsSetCount, IsWithinAsked, error_at, errors_at_numbers, with_observable, HasNoneBelow, IsLogicalSetOf, AreAsMany, IsCountOfSets, IsLogicalError}
use Rattle.stab_search.specs.Tables.{ErrorTable}
use Rattle.stab_error_model.proofs.ObservedLemmas.{from-retained, to-retained}
use Rattle.stab_error_model.proofs.UnseenLemmas.{as-many, logical-of, logical-unseen}

-- as many sets are of one kind as of another, if the same sets are
as-many-alike : {P Q : List ℕ → Type 0} (count : ℕ) → ((ks : List ℕ) → P ks → Q ks) → ((ks : List ℕ) → Q ks → P ks) → AreAsMany P count → AreAsMany Q count
as-many-alike count to from are = record {
  set = are.set;
  is_one = λ k less. to (are.set k) (are.is_one k less);
  distinct = are.distinct;
  all = λ ks is. are.all ks (from ks is);
}

-- no set is of a kind of which there is none
as-many-none : {Q : List ℕ → Type 0} → ((ks : List ℕ) → Q ks → ⊥) → AreAsMany Q 0
as-many-none none = record {
  set = λ k. [];
  is_one = λ k less. absurd (omega (arith, less));
  distinct = λ j k less. absurd (omega (arith, less));
  all = λ ks is. absurd (none ks is);
}

module _ (n : ℕ) (items : Items) (observable : Option ℕ) (t : ErrorTableState) (table : IsErrorTable n items t) where
  abbrev sought : ErrorTable
  sought = with_observable observable t.table

  -- no logical error has fewer errors than a least unseen set
  pub none-below : (most : Option ℕ) (ks : List ℕ) → IsLeastSet false observable n items t.errors most ks → HasNoneBelow sought (length ks)
  none-below most ks least errors logical =
      let unseen = logical-unseen n items observable t table false errors (from-retained t.table observable errors logical) (λ asked. absurd (cc)) in
      let le = least.least.least (errors_at_numbers t.errors errors) unseen in
      omega (arith, le, length-map ks (error_at t.errors), length-map errors (error_at t.errors))

  -- a least unseen set is a logical error of the rows that are searched
  logical-set : (most : Option ℕ) (ks : List ℕ) → IsLeastSet false observable n items t.errors most ks → IsLogicalError sought ks
  logical-set most ks least =
      to-retained t.table observable ks
      (logical-of n items observable t table ks (All-weaker (λ k. k < length t.errors) (λ k. k < length t.table.rows) (λ k less. omega (arith, less, as-many n items observable t table)) ks least.inside) least.least.unseen.unseen)

  module _ (most : Option ℕ) (ks : List ℕ) (least : IsLeastSet false observable n items t.errors most ks) where
    to-least : (errors : List ℕ) → IsLogicalSetOf sought (length ks) errors → IsLeastSet false observable n items t.errors most errors
    to-least errors set =
        let logical = from-retained t.table observable errors set.logical in record {
          ascending = set.ascending;
          within = subst (IsWithinAsked most) (sym set.count) least.within;
          inside = All-weaker (λ k. k < length t.table.rows) (λ k. k < length t.errors) (λ k less. omega (arith, less, as-many n items observable t table)) errors logical.inside;
          least = record {
            unseen = logical-unseen n items observable t table false errors logical (λ asked. absurd (cc));
            least = λ others are.
                let le = least.least.least others are in
                omega (arith, le, set.count, length-map ks (error_at t.errors), length-map errors (error_at t.errors));
          };
        }

    from-least : (errors : List ℕ) → IsLeastSet false observable n items t.errors most errors → IsLogicalSetOf sought (length ks) errors
    from-least errors is =
        let one = least.least.least (errors_at_numbers t.errors errors) is.least.unseen in
        let other = is.least.least (errors_at_numbers t.errors ks) least.least.unseen in record {
          ascending = is.ascending;
          logical = logical-set most errors is;
          count = omega (arith, one, other, length-map ks (error_at t.errors), length-map errors (error_at t.errors));
        }

    pub set-count : (count : Option ℕ) → IsCountOfSets sought (length ks) count → IsSetCount observable n items t.errors most count
    set-count (Some count) are = as-many-alike count to-least from-least are
    set-count None are = (are.0, (are.1.0, as-many-alike are.0 to-least from-least are.1.1))

  -- there is none, if it was answered so
  pub count-none-within : (most : Option ℕ) → IsDistance false observable n items t.errors most NoneWithin → IsSetCount observable n items t.errors most (Some 0)
  count-none-within (Some w) is =
      as-many-none (λ ks least.
      let more = is.0 (errors_at_numbers t.errors ks) least.least.unseen in
      let within = least.within in
      omega (arith, more, within, length-map ks (error_at t.errors)))
  count-none-within None is = absurd is

  pub count-none-at-all : (most : Option ℕ) → IsDistance false observable n items t.errors most NoneAtAll → IsSetCount observable n items t.errors most (Some 0)
  count-none-at-all most is = as-many-none (λ ks least. is (errors_at_numbers t.errors ks) least.least.unseen)

-- what is counted of the rows that are searched is a count of the sets of which an answer is one
pub counts-are : {E : Type 0} (t : ErrorTableState) (observable : Option ℕ) (answer : Answer) (ks : List ℕ) (size : ℕ) (r : Result (Option ℕ) E)
    → ((n : ℕ) (items : Items) (most : Option ℕ) → IsDistance false observable n items t.errors most answer → IsLeastSet false observable n items t.errors most ks) → size ≡ length ks
    → IfOk r (IsCountOfSets (with_observable observable t.table) size)
    → IfOk r (λ c. (n : ℕ) (items : Items) (most : Option ℕ) → IsErrorTable n items t → IsDistance false observable n items t.errors most answer → IsSetCount observable n items t.errors most c)
counts-are t observable answer ks size (Ok c) least e is = λ n items most table distance.
    set-count n items observable t table most ks (least n items most distance) c (subst (λ k. IsCountOfSets (with_observable observable t.table) k c) e is)
counts-are t observable answer ks size (Err x) least e is = tt

-- Answers: what the search answers of a table of errors is the distance.
use Rattle.stab_error_model.proofs.Names.{◌≡◌, ℕ, ◌<◌, sym, subst, false, Result, Ok, Err, IfOk, length, arith, Option, Some, unwrap_or, Items, HasNoneWithin, IsLeastAnswer, none-up_to, Answer, Least, NoneWithin, NoneAtAll, ErrorTableState, IsErrorTable, IsDistance, with_observable}
use Rattle.std.proofs.Common.{None}
use Rattle.stab_search.specs.Tables.{ErrorTable}
use Rattle.stab_error_model.proofs.ObservedLemmas.{as-many-retained}
use Rattle.stab_error_model.proofs.UnseenLemmas.{least-unseen, none-unseen, none-unseen-within, some-unseen}

module _ (n : ℕ) (items : Items) (observable : Option ℕ) (t : ErrorTableState) (table : IsErrorTable n items t) where
  pub answer-is : (most : Option ℕ) (bound : ℕ) (a : Answer) → bound ≡ unwrap_or most (length t.table.rows) → IsLeastAnswer (with_observable observable t.table) bound a → IsDistance false observable n items t.errors most a
  answer-is most bound (Least ks) e is = least-unseen n items observable t table most bound ks.items e is
  answer-is most bound NoneAtAll e is = none-unseen n items observable t table is
  answer-is (Some w) bound NoneWithin e is = (none-unseen-within n items observable t table w (subst (HasNoneWithin (with_observable observable t.table)) e is.0), some-unseen n items observable t table is.1)
  answer-is None bound NoneWithin e is =
      let errors = is.1.0 in
      let less : length errors < length errors = none-up_to (with_observable observable t.table) (length errors) bound (omega (arith, e, as-many-retained t.table observable)) is.0 errors is.1.1 in
      absurd (omega (arith, less))

-- what is answered of a table in which an observable counts, or any
pub answers-are : {E : Type 0} (t : ErrorTableState) (asked observable most : Option ℕ) (bound : ℕ) (searched : ErrorTable) (r : Result Answer E)
    → asked ≡ observable → bound ≡ unwrap_or most (length t.table.rows) → searched ≡ with_observable observable t.table → IfOk r (λ a. IsLeastAnswer searched bound a)
    → IfOk r (λ a. (n : ℕ) (items : Items) → IsErrorTable n items t → IsDistance false asked n items t.errors most a)
answers-are t asked observable most bound searched (Ok a) same e is answer = λ n items table.
    subst (λ o. IsDistance false o n items t.errors most a) (sym same)
    (answer-is n items observable t table most bound a e (subst (λ s. IsLeastAnswer s bound a) is answer))
answers-are t asked observable most bound searched (Err x) same e is answer = tt

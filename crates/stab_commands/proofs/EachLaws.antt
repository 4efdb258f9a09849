-- Laws of answers about each observable in turn: how they are found, and written one after another.
use Rattle.stab_commands.proofs.Names.{◌≡◌, refl, ap, ◌∙◌, subst, ℕ, zero, suc, ◌+◌, add-one, drop-cons, ◌<◌, arith, List, [], ◌∷◌, ◌++◌, length, drop, get_or, Result, OutputView, Fault, Items, DistanceOptions, SendsFound, SendsAtOnce, AreErrorsOf, IsDistanceOf, answer_text}
use Rattle.stab_items.specs.Steps.{observables_of, qubits_of}
use Rattle.stab_search.specs.declared.answer.Answer.{Answer}
use Rattle.stab_search.specs.declared.answer.Answer.TheVariants.{NoneAtAll}
use Rattle.stab_error_model.specs.ErrorTables.{ErrorTableState, IsErrorTable}
use Rattle.stab_error_model.specs.Unseen.{IsDistance}
use Rattle.stab_report.specs.Distances.{AreDistanceAnswers, IsEachText, answer_texts, for_observable}
use Rattle.stab_commands.proofs.FoundLaws.{found_at_once}

-- the errors that are searched are the same for each observable
pub same_errors : (options : DistanceOptions) (j : ℕ) (items : Items) (t : ErrorTableState) → AreErrorsOf options items t → AreErrorsOf (for_observable options j) items t
same_errors options j items t are = record { errors = are.errors; table = are.table; all_deterministic = are.all_deterministic }

-- one answer more, about the observable after the last
pub more_answers : (options : DistanceOptions) (items : Items) (t : ErrorTableState) (first : ℕ) (answers : List Answer) (a : Answer) → AreDistanceAnswers options items t first answers
    → IsDistanceOf (for_observable options (first + length answers)) items t a → AreDistanceAnswers options items t first (answers ++ a ∷ [])
more_answers options items t first [] a are is = (subst (λ k. IsDistanceOf (for_observable options k) items t a) (omega arith) is, tt)
more_answers options items t first (x ∷ answers) a are is =
    (are.0, more_answers options items t (first + 1) answers a are.1 (subst (λ k. IsDistanceOf (for_observable options k) items t a) (omega arith) is))

-- the answer of a number is about the observable of that number
pub answer_of_number : (options : DistanceOptions) (items : Items) (t : ErrorTableState) (first : ℕ) (answers : List Answer) (k : ℕ) (d : Answer) → AreDistanceAnswers options items t first answers → k < length answers
    → IsDistanceOf (for_observable options (first + k)) items t (get_or answers k d)
answer_of_number options items t first [] k d are less = absurd (omega (arith, less))
answer_of_number options items t first (x ∷ answers) zero d are less = subst (λ j. IsDistanceOf (for_observable options j) items t x) (omega arith) are.0
answer_of_number options items t first (x ∷ answers) (suc k) d are less =
    subst (λ j. IsDistanceOf (for_observable options j) items t (get_or answers k d)) (omega arith) (answer_of_number options items t (first + 1) answers k d are.1 (omega (arith, less)))

-- the same from the first observable on, by the answer that is read there
pub answer_read : (options : DistanceOptions) (items : Items) (t : ErrorTableState) (answers : List Answer) (k : ℕ) (a : Answer) → AreDistanceAnswers options items t 0 answers → k < length answers → get_or answers k NoneAtAll ≡ a
    → IsDistanceOf (for_observable options k) items t a
answer_read options items t answers k a are less read =
    subst (IsDistanceOf (for_observable options k) items t) read (subst (λ j. IsDistanceOf (for_observable options j) items t (get_or answers k NoneAtAll)) (omega arith) (answer_of_number options items t 0 answers k NoneAtAll are less))

-- what is left to write from a number on: its own answer, and those after it
pub texts_left : (options : DistanceOptions) (items : Items) (t : ErrorTableState) (answers : List Answer) (k : ℕ) (a : Answer) → k < length answers → get_or answers k NoneAtAll ≡ a
    → answer_texts options items t k (drop k answers) ≡ answer_text (for_observable options k) items t a ++ answer_texts options items t (k + 1) (drop (k + 1) answers)
texts_left options items t answers k a less read =
    let split : drop k answers ≡ a ∷ drop (k + 1) answers = rw (add-one) (drop-cons answers k NoneAtAll less ∙ ap (λ x. x ∷ drop (suc k) answers) read) in
    ap (answer_texts options items t k) split

-- what a search for one observable found
pub found_for : (options asked : DistanceOptions) (j : ℕ) (t : ErrorTableState) (a : Answer) → asked ≡ for_observable options j
    → ((n : ℕ) (items : Items) → IsErrorTable n items t → IsDistance asked.graphlike asked.observable n items t.errors asked.most a) → (items : Items) → AreErrorsOf options items t
    → IsDistanceOf (for_observable options j) items t a
found_for options asked j t a is found items are = record {
  are = same_errors options j items t are;
  distance = subst (λ (o : DistanceOptions). IsDistance o.graphlike o.observable (qubits_of items) items t.errors o.most a) is (found (qubits_of items) items are.table);
}

-- answers about each observable are sent as bytes like those that say so
pub each_sent : {T : Type 0} (options : DistanceOptions) (items : Items) (t : ErrorTableState) (answers : List Answer) (old new : OutputView) (r : Result T Fault) → AreErrorsOf options items t
    → length answers ≡ observables_of items → AreDistanceAnswers options items t 0 answers → SendsAtOnce (answer_texts options items t 0 answers) old new r → SendsFound (IsEachText options items) old new r
each_sent options items t answers old new r are each distances sent =
    found_at_once (IsEachText options items) old new (answer_texts options items t 0 answers) r (record { t = t; are = are; answers = answers; each = each; distances = distances; text = refl }) sent

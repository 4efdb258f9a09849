-- Parts: which errors give way to theirs, by rows and by runs.
use Rattle.stab_error_model.proofs.Names.{None, ◌≡◌, ℕ, ◌⊎◌, inl, inr, refl, sym, ap, ◌∙◌, subst, Bool, true, false, List, [], ◌∷◌, ◌++◌, append_assoc, append-nil, map, arith, All, All-nil, All-cons, All-head, All-tail, Items, unroll, detectors_of, StepFits, SingleError, single_errors_of, IsSingleErrorTable, SingleErrorsAdd, DeterministicParities, SitesFlipDeterministicParities, IsGraphlike, Error, ErrorTableState, IsErrorTable, GivesParts, AreSplit, AreSearched, parts_of_error, error_shown, AddsErrors, ErrorStands, IsErrorRow, IsSplitByRow, SplitByRows, AreSplitByRows, AreSearchedByRows, ErrorValue}
use Rattle.stab_error_model.proofs.FlipLemmas.{table-is}
use Rattle.stab_error_model.proofs.GraphlikeLemmas.{row-two, two-row}

-- errors one after another

split-push : (rows : List (List ℕ)) (detectors : ℕ) (whole : List ErrorValue) (before : List Error) (e : ErrorValue) (given : List Error) → SplitByRows rows detectors whole before
    → IsSplitByRow rows detectors e given → SplitByRows rows detectors (whole ++ e ∷ []) (before ++ given)
split-push rows detectors [] before e given none is = (given, [], is, refl, ap (λ es. es ++ given) none ∙ sym (append-nil given))
split-push rows detectors (x ∷ xs) before e given (first, rest, here, later, both) is =
    (first, rest ++ given, here, split-push rows detectors xs rest e given later is, ap (λ es. es ++ given) both ∙ append_assoc first rest given)

all-before : (single_errors : List SingleError) (whole : List ErrorValue) (e : ErrorValue) → All (ErrorStands single_errors) (whole ++ e ∷ []) → All (ErrorStands single_errors) whole × ErrorStands single_errors e
all-before single_errors [] e stand = (All-nil (ErrorStands single_errors), All-head (ErrorStands single_errors) e [] stand)
all-before single_errors (x ∷ xs) e stand =
    let later = all-before single_errors xs e (All-tail (ErrorStands single_errors) x (xs ++ e ∷ []) stand) in
    (All-cons (ErrorStands single_errors) x xs (All-head (ErrorStands single_errors) x (xs ++ e ∷ []) stand) later.0, later.1)

pub split-more : (rows : List (List ℕ)) (detectors : ℕ) (whole old new : List ErrorValue) (e : ErrorValue) (given : List Error) → AreSplitByRows rows detectors whole old
    → IsSplitByRow rows detectors e given → AddsErrors (λ single_errors. ErrorStands single_errors e) given old new → AreSplitByRows rows detectors (whole ++ e ∷ []) new
split-more rows detectors whole old new e given before is adds = record {
  given = subst (SplitByRows rows detectors (whole ++ e ∷ [])) (sym adds.errors) (split-push rows detectors whole (map error_shown old) e given before.given is);
  stand = λ single_errors stand. let parts = all-before single_errors whole e stand in adds.stand single_errors parts.1 (before.stand single_errors parts.0);
}

-- errors that are searched stand
pub searched-stand : (graphlike : Bool) (rows : List (List ℕ)) (detectors : ℕ) (whole searched : List ErrorValue) (single_errors : List SingleError) → AreSearchedByRows graphlike rows detectors whole searched
    → All (ErrorStands single_errors) whole → All (ErrorStands single_errors) searched
searched-stand false rows detectors whole searched single_errors is stand = subst (All (ErrorStands single_errors)) (sym is) stand
searched-stand true rows detectors whole searched single_errors is stand = is.stand single_errors stand

-- by runs

module _ (n : ℕ) (everywhere : Bool) (items : Items) (deterministic : List Bool) (rows : List (List ℕ)) (fits : All (StepFits n) (unroll items))
    (table : IsSingleErrorTable n everywhere items deterministic rows) (found : DeterministicParities) (sites : SitesFlipDeterministicParities) (adds : SingleErrorsAdd)
    (detectors : ℕ) (count : detectors ≡ detectors_of (unroll items)) where
  abbrev Stand : ErrorValue → Type 0
  Stand = ErrorStands (single_errors_of everywhere (unroll items))

  -- the table of one error
  abbrev alone : ErrorValue → List ℕ → ErrorTableState
  alone e row = record { deterministic = deterministic; errors = error_shown e ∷ []; table = record { detectors = detectors; rows = row ∷ [] } }

  alone-is : (e : ErrorValue) (row : List ℕ) → Stand e → IsErrorRow rows e row → IsErrorTable n items (alone e row)
  alone-is e row stands is = table-is n everywhere items deterministic rows fits table found sites adds detectors count (e ∷ []) (row ∷ []) (All-cons Stand e [] stands (All-nil Stand)) (is, tt)

  row-split : (e : ErrorValue) (given : List Error) → Stand e → IsSplitByRow rows detectors e given → GivesParts n items (error_shown e) given
  row-split e given stands (row, is, preserved) = by_row preserved
    where
      by_row : (IsGraphlike detectors row × (given ≡ error_shown e ∷ [])) ⊎ ((IsGraphlike detectors row → ⊥) × (given ≡ parts_of_error (error_shown e))) → GivesParts n items (error_shown e) given
      by_row (inl stays) = inl (row-two n items None (alone e row) (alone-is e row stands is) 0 (omega arith) stays.0, stays.1)
      by_row (inr goes) = inr (λ two. goes.0 (two-row n items None (alone e row) (alone-is e row stands is) 0 (omega arith) two), goes.1)

  rows-split : (whole : List ErrorValue) (given : List Error) → All Stand whole → SplitByRows rows detectors whole given → AreSplit n items (map error_shown whole) given
  rows-split [] given stand is = is
  rows-split (e ∷ es) given stand (first, rest, here, later, both) =
      (first, rest, row-split e first (All-head Stand e es stand) here, rows-split es rest (All-tail Stand e es stand) later, both)

  pub searched-are : (graphlike : Bool) (whole searched : List ErrorValue) → All Stand whole → AreSearchedByRows graphlike rows detectors whole searched
      → AreSearched graphlike n items (map error_shown whole) (map error_shown searched)
  searched-are false whole searched stand is = ap (map error_shown) is
  searched-are true whole searched stand is = rows-split whole (map error_shown searched) stand is.given

-- Ways: how many sets of errors complete those chosen, if each error can be had in several ways, its weight.
use Rattle.std.specs.Prelude.{◌≡◌, ℕ, zero, suc, ◌+◌, ◌*◌, ◌^◌, ◌<◌, ◌≤◌, ◌⊎◌, true, ◌&&◌, List, [], ◌∷◌, ◌++◌, length, nat_lt, slice_index, slice_set, Option, Some, None, if◌then◌else◌}
use Rattle.std.specs.List.{list_any}
use Rattle.stab_search.specs.Counts.{HasNoneBelow}
use Rattle.stab_search.specs.Tables.{ErrorTable}
use Rattle.stab_parities.specs.OddNumbers.{odd, row}
use Rattle.stab_search.specs.inner.Errors.{HasRow}
use Rattle.stab_search.specs.inner.Ends.{Completes}
use Rattle.stab_search.specs.inner.Lists.{ForEach, has}

-- the ways without another error: one if what is flipped is observables and no detector, else none
abbrev pub leaf : (detectors : ℕ) → List ℕ → ℕ
leaf detectors flipped =
    if list_any (λ k. nat_lt k detectors && odd k flipped) flipped then 0 else if list_any (λ k. odd k flipped) flipped then 1 else 0

-- the ways to complete what is flipped by `left` errors of these rows: the first is left out, or taken in as many ways as its weight
abbrev pub ways : (detectors : ℕ) → (rows : List (List ℕ)) → (weights : List ℕ) → (left : ℕ) → (flipped : List ℕ) → ℕ
ways detectors rows weights zero flipped = leaf detectors flipped
ways detectors [] weights (suc left) flipped = 0
ways detectors (r ∷ rows) [] (suc left) flipped = 0
ways detectors (r ∷ rows) (w ∷ weights) (suc left) flipped = ways detectors rows weights (suc left) flipped + w * ways detectors rows weights left (r ++ flipped)

-- what an answer says of a number: the number, or that it takes more than 64 bits
abbrev pub ReportsNumber : ℕ → Option ℕ → Type 0
ReportsNumber n (Some k) = k ≡ n
ReportsNumber n None = 2 ^ 64 ≤ n

-- no fewer errors complete what is flipped
abbrev pub HasNoFewer : ErrorTable → List ℕ → ℕ → Type 0
HasNoFewer t flipped left = (rest : List ℕ) → Completes t flipped rest → left ≤ length rest

-- `left` errors with weights that complete what is flipped
pub record IsWeightedWay (t : ErrorTable) (weights flipped : List ℕ) (left : ℕ) (rest : List ℕ) : Type 0 where
  pub completes : Completes t flipped rest
  pub weighted : ForEach (λ e. 0 < slice_index weights e) rest
  pub count : length rest ≡ left

-- each such list has one of these errors
abbrev pub MeetsEach : ErrorTable → (weights flipped : List ℕ) → ℕ → List ℕ → Type 0
MeetsEach t weights flipped left errors = (rest : List ℕ) → IsWeightedWay t weights flipped left rest → (e : ℕ) × ((has e rest ≡ true) × (has e errors ≡ true))

-- a number of the ways that are no longer there with later weights
abbrev pub IsWaysPart : ErrorTable → (before after : List ℕ) → ℕ → List ℕ → Option ℕ → Type 0
IsWaysPart t before after left flipped part =
    (n : ℕ) × (ReportsNumber n part × (n + ways t.detectors t.rows after left flipped ≡ ways t.detectors t.rows before left flipped))

-- a weight of 1 for each row
abbrev pub unit_weights : List (List ℕ) → List ℕ
unit_weights [] = []
unit_weights (r ∷ rows) = 1 ∷ unit_weights rows

-- the rows of a table with weights have, for any number of errors of which none fewer flip an observable unseen, as many ways
pub record AreGroups (t : ErrorTable) (rows : List (List ℕ)) (weights : List ℕ) : Type 0 where
  pub count : length weights ≡ length rows
  pub rows_of : (k : ℕ) → k < length rows → HasRow t.rows (row rows k)
  pub same : (size : ℕ) → HasNoneBelow t size → ways t.detectors rows weights size [] ≡ ways t.detectors t.rows (unit_weights t.rows) size []

-- one more error: a row of its own, or one more for a row that is the same
abbrev pub IsWeightAdded : (numbers : List ℕ) → (rows : List (List ℕ)) → (weights : List ℕ) → (more : List (List ℕ)) → (heavier : List ℕ) → Type 0
IsWeightAdded numbers rows weights more heavier =
    ((more ≡ rows ++ numbers ∷ []) × (heavier ≡ weights ++ 1 ∷ []))
    ⊎ ((more ≡ rows) × ((k : ℕ) × ((k < length rows) × ((row rows k ≡ numbers) × (heavier ≡ slice_set weights k (slice_index weights k + 1))))))

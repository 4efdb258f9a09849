-- Ends: errors that complete those chosen so far to a logical error.
use Rattle.std.specs.Prelude.{◌≡◌, ℕ, ◌<◌, ◌≤◌, true, false, List, [], ◌∷◌, length, slice_index}
use Rattle.std.specs.Global.{Vec}
use Rattle.stab_gates.specs.Letters.{◌⊕◌}
use Rattle.stab_parities.specs.Ascending.{IsAscending}
use Rattle.stab_search.specs.Tables.{ErrorTable, flipped_by_rows}
use Rattle.stab_parities.specs.OddNumbers.{odd}
use Rattle.stab_search.specs.inner.Indexes.{rows_listed}
use Rattle.stab_search.specs.inner.Lists.{ForEach, has}

-- errors that flip the flipped detectors back, and leave an observable flipped
pub record Completes (t : ErrorTable) (flipped rest : List ℕ) : Type 0 where
  pub inside : ForEach (λ r. r < length t.rows) rest
  pub undetected : (d : ℕ) → d < t.detectors → flipped_by_rows t.rows rest d ≡ odd d flipped
  pub observed : (o : ℕ) × (t.detectors ≤ o) × (flipped_by_rows t.rows rest o ⊕ odd o flipped ≡ true)

-- at most `left` errors that do
pub record CompletesSetWithin (t : ErrorTable) (flipped : List ℕ) (left : ℕ) (rest : List ℕ) : Type 0 where
  pub ends : Completes t flipped rest
  pub within : length rest ≤ left

-- a set of errors after the first one that may be tried with those chosen: it has none of them, and no pair that is left out
pub record MayFollow (pairs : List (Vec ℕ)) (first : ℕ) (path rest : List ℕ) : Type 0 where
  pub ascending : IsAscending rest
  pub later : ForEach (λ r. first < r) rest
  pub fresh : (g : ℕ) → has g rest ≡ true → has g path ≡ false
  pub unpaired : (a g : ℕ) → has a path ≡ true → has g rest ≡ true → has g (rows_listed pairs a) ≡ false
  pub among : (a g : ℕ) → has a rest ≡ true → has g rest ≡ true → has g (rows_listed pairs a) ≡ false

-- a set that may be tried, and completes those chosen
pub record CompletesSet (t : ErrorTable) (pairs : List (Vec ℕ)) (first : ℕ) (path flipped rest : List ℕ) : Type 0 where
  pub completes : Completes t flipped rest
  pub follows : MayFollow pairs first path rest

-- there is no such set of exactly `left` errors
abbrev pub NoEnds : ErrorTable → List (Vec ℕ) → ℕ → List ℕ → List ℕ → ℕ → Type 0
NoEnds t pairs first path flipped left = (rest : List ℕ) → CompletesSet t pairs first path flipped rest → length rest ≡ left → ⊥

-- and none with error g
abbrev pub NoEndsBy : ErrorTable → List (Vec ℕ) → ℕ → List ℕ → List ℕ → ℕ → ℕ → Type 0
NoEndsBy t pairs first path flipped left g =
    (rest : List ℕ) → CompletesSet t pairs first path flipped rest → length rest ≡ left → has g rest ≡ true → ⊥

-- each such set has one of these errors
abbrev pub Meet : ErrorTable → List (Vec ℕ) → ℕ → List ℕ → List ℕ → ℕ → List ℕ → Type 0
Meet t pairs first path flipped left errors =
    (rest : List ℕ) → CompletesSet t pairs first path flipped rest → length rest ≡ left → (k : ℕ) × ((k < length errors) × (has (slice_index errors k) rest ≡ true))

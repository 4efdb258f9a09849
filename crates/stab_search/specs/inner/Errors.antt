-- Errors ready for a search: their table, and numbers of detectors, of which the keys of rows are made.
use Rattle.std.specs.Prelude.{◌≡◌, ℕ, ◌<◌, ◌≤◌, List, [], ◌∷◌, length, slice_index, bit_xor}
use Rattle.std.specs.Global.{Vec}
use Rattle.stab_parities.specs.Ascending.{IsAscending}
use Rattle.stab_search.specs.Tables.{ErrorTable}
use Rattle.stab_parities.specs.OddNumbers.{row}
use Rattle.stab_search.specs.inner.Indexes.{ListsDetectors, ListsKeys}
use Rattle.stab_search.specs.inner.Pairs.{ArePairs}
use Rattle.stab_search.specs.inner.Steps.{BeginsBefore}

-- a table, how many of its errors can be the first of a set, a number for each of its detectors, and for each error those that need not be tried with it
pub record Keyed : Type 0 where
  pub table : ErrorTable
  pub firsts : ℕ
  pub numbers : List ℕ
  pub pairs : List (Vec ℕ)

-- the key of a row: the exclusive or of its detectors' numbers
abbrev pub key_of : List ℕ → List ℕ → ℕ
key_of numbers [] = 0
key_of numbers (d ∷ ds) = bit_xor (slice_index numbers d) (key_of numbers ds)

-- what errors flip together, in ascending order, with its key
pub record IsKeyed (numbers flipped : List ℕ) (key : ℕ) : Type 0 where
  pub ascending : IsAscending flipped
  pub value : key ≡ key_of numbers flipped

-- the keys of rows
abbrev pub AreKeys : List ℕ → List (List ℕ) → List ℕ → Type 0
AreKeys numbers rows keys = (length keys ≡ length rows) × ((r : ℕ) → r < length rows → slice_index keys r ≡ key_of numbers (row rows r))

-- only detectors have numbers; the keys, the indexes, the pairs and the errors that can be first are those of the rows
pub record AreErrorsReady (detectors : ℕ) (rows : List (List ℕ)) (numbers keys : List ℕ) (mask : ℕ) (by_key by_detector pairs : List (Vec ℕ)) (firsts : ℕ) : Type 0 where
  pub numbered : length numbers ≤ detectors
  pub keyed : AreKeys numbers rows keys
  pub indexed : ListsKeys keys mask by_key
  pub listed : ListsDetectors rows by_detector
  pub paired : ArePairs rows firsts pairs
  pub inside : firsts ≤ length rows
  pub begun : BeginsBefore (record { detectors = detectors; rows = rows }) firsts

-- rows chosen from a table: row k is row `numbers` k of the table
pub record AreRowsOf (rows chosen : List (List ℕ)) (numbers : List ℕ) : Type 0 where
  pub count : length numbers ≡ length chosen
  pub same : (k : ℕ) → k < length chosen → (slice_index numbers k < length rows) × (row chosen k ≡ row rows (slice_index numbers k))

-- one of the rows has these numbers
abbrev pub HasRow : List (List ℕ) → List ℕ → Type 0
HasRow rows numbers = (k : ℕ) × (k < length rows) × (row rows k ≡ numbers)

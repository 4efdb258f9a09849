-- Parts: a table of which only the graph-like rows are left, and the others are empty.
use Rattle.std.specs.Prelude.{◌≡◌, ℕ, ◌<◌, ◌⊎◌, List, [], length}
use Rattle.stab_search.specs.Tables.{ErrorTable}
use Rattle.stab_parities.specs.OddNumbers.{row}
use Rattle.stab_search.specs.Graphlike.{IsGraphlike}

-- rows of which only the graph-like ones are left
pub record AreGraphlikeRows (detectors : ℕ) (rows part : List (List ℕ)) : Type 0 where
  pub count : length part ≡ length rows
  pub preserved : (r : ℕ) → r < length part → IsGraphlike detectors (row rows r) → row part r ≡ row rows r
  pub others : (r : ℕ) → r < length part → IsGraphlike detectors (row rows r) ⊎ (row part r ≡ [])

-- a table's graph-like part
pub record IsGraphlikePart (t part : ErrorTable) : Type 0 where
  pub detectors : part.detectors ≡ t.detectors
  pub rows : AreGraphlikeRows t.detectors t.rows part.rows

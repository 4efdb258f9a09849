-- Graphs: each row that flips at most two detectors is an edge. The nodes are the detectors, and the boundary, whose number is that of the detectors.
use Rattle.std.specs.Prelude.{◌≡◌, ℕ, ◌<◌, ◌≤◌, ◌==◌, Bool, true, false, List, length, slice_index_or, All}
use Rattle.stab_gates.specs.Letters.{◌⊕◌}
use Rattle.stab_search.specs.declared.edges.Edge.{Edge}
use Rattle.stab_search.specs.Tables.{ErrorTable, flipped_by_rows}
use Rattle.stab_parities.specs.OddNumbers.{odd, row}
use Rattle.stab_search.specs.LogicalErrors.{IsLogicalError}

-- an edge flips the detectors of its row: its two nodes, one of which or both may be the boundary
pub record IsEdge (detectors : ℕ) (is : List ℕ) (e : Edge) : Type 0 where
  pub first : e.first ≤ detectors
  pub second : e.second ≤ detectors
  pub same : (d : ℕ) → d < detectors → odd d is ≡ (e.first == d) ⊕ (e.second == d)

-- edge r; past the end a loop
abbrev pub edge : List Edge → ℕ → Edge
edge edges r = slice_index_or edges r (record { first = 0; second = 0 })

-- an edge for each row
pub record AreEdges (t : ErrorTable) (edges : List Edge) : Type 0 where
  pub count : length edges ≡ length t.rows
  pub each : (r : ℕ) → r < length t.rows → IsEdge t.detectors (row t.rows r) (edge edges r)

-- whether each row flips a number
pub record RowsFlip (rows : List (List ℕ)) (o : ℕ) (bits : List Bool) : Type 0 where
  pub count : length bits ≡ length rows
  pub each : (r : ℕ) → r < length rows → slice_index_or bits r false ≡ odd o (row rows r)

-- errors that flip no detector and this observable are at least this many
abbrev pub HasAtLeast : ErrorTable → (o bound : ℕ) → Type 0
HasAtLeast t o bound =
    (errors : List ℕ) → All (λ r. r < length t.rows) errors → ((d : ℕ) → d < t.detectors → flipped_by_rows t.rows errors d ≡ false) → flipped_by_rows t.rows errors o ≡ true → bound ≤ length errors

-- each logical error has at least this many errors
abbrev pub HasBound : ErrorTable → (bound : ℕ) → Type 0
HasBound t bound = (errors : List ℕ) → IsLogicalError t errors → bound ≤ length errors

-- what contracts see of a graph: the table of its rows, and their edges
pub record GraphState : Type 0 where
  pub table : ErrorTable
  pub edges : List Edge

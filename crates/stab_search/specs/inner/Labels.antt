-- Labels: for each node and each parity no more than the number of edges that lead there from a source, of which an odd number flip the
-- observable if the parity is true. What makes them so is that they differ by at most 1 along each edge.
use Rattle.std.specs.Prelude.{◌≡◌, ℕ, ◌+◌, ◌<◌, ◌≤◌, ◌⊎◌, Bool, true, false, List, length, slice_index, slice_index_or}
use Rattle.stab_gates.specs.Letters.{◌⊕◌}
use Rattle.stab_search.specs.declared.edges.Edge.{Edge}
use Rattle.stab_search.specs.declared.labels.Labels.{Labels}
use Rattle.stab_search.specs.inner.Graphs.{edge}

-- the label of a node at a parity
abbrev pub label : Labels → ℕ → Bool → ℕ
label l v false = slice_index l.even.items v
label l v true = slice_index l.odd.items v

-- numbers that differ by at most 1
abbrev pub AreNear : ℕ → ℕ → Type 0
AreNear x y = (x ≤ y + 1) × (y ≤ x + 1)

-- the labels of the nodes of an edge that flips the observable or not
abbrev pub AreNearAlong : Labels → Edge → Bool → Type 0
AreNearAlong l e flips = (p : Bool) → AreNear (label l e.first p) (label l e.second (p ⊕ flips))

-- labels from a source, which show that an odd cycle through it has at least this many edges
pub record AreLabels (edges : List Edge) (bits : List Bool) (source bound : ℕ) (l : Labels) : Type 0 where
  pub begin : label l source false ≡ 0
  pub far : bound ≤ label l source true
  pub along : (r : ℕ) → r < length edges → AreNearAlong l (edge edges r) (slice_index_or bits r false)

-- some labels show that
abbrev pub IsFar : List Edge → List Bool → (source bound : ℕ) → Type 0
IsFar edges bits source bound = (l : Labels) × AreLabels edges bits source bound l

-- each edge that flips the observable has a node that is a source
abbrev pub AreCovered : List Edge → List Bool → (sources : List Bool) → Type 0
AreCovered edges bits sources =
    (r : ℕ) → r < length edges → slice_index_or bits r false ≡ true →
    (slice_index_or sources (edge edges r).first false ≡ true) ⊎ (slice_index_or sources (edge edges r).second false ≡ true)

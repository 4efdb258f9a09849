-- Regions at a point: what the pass backwards holds between two steps, and how one step changes it.
use Rattle.std.specs.Prelude.{◌≡◌, ℕ, ◌+◌, ◌-◌, ◌==◌, ◌<◌, ◌≤◌, ◌^◌, nat_lt, Bool, false, not, ◌&&◌, List, [], ◌∷◌, length, slice_index_or, if◌then◌else◌}
use Rattle.stab_items.specs.Steps.{Step, detector, observable, is_detector}
use Rattle.stab_regions.specs.declared.walk.RegionWalk.{RegionWalk}
use Rattle.stab_regions.specs.Regions.{region_of, asks_observable}
use Rattle.stab_regions.specs.Tables.{named_by_detector}
use Rattle.stab_regions.specs.Parities.{detectors_before, parity_region, parity_preserved, parity_deterministic}
use Rattle.stab_regions.specs.inner.RowMoves.{ShowsNumber}

-- there are as many rows of one kind as of the other, no records are numbered, and each parity has a mark, and an u32 as its number
pub record AreRowsSized (r : RegionWalk) : Type 0 where
  pub rows : length r.rows.by_z.items ≡ length r.rows.by_x.items
  pub records : r.rows.record_end ≡ 0
  pub before : r.rows.detector_end ≤ r.rows.observable
  pub detectors : r.rows.observable ≤ length r.random.items
  pub few : length r.random.items < 2 ^ 32

-- the regions, before the last steps, of D detectors and this many observables: each parity's is shown and marked if it is not
-- stored, and no other number is in any row
pub record IsRegionsAt (n D count : ℕ) (back : List Step) (r : RegionWalk) : Type 0 where
  pub sized : AreRowsSized r
  pub qubits : length r.rows.by_x.items ≡ n
  pub detectors : r.rows.observable ≡ D
  pub before : r.rows.detector_end ≡ detectors_before D back
  pub marks : length r.random.items ≡ D + count
  pub regions : (i : ℕ) → i < D + count → ShowsNumber r.rows i (parity_region n D i back)
  pub others : (i : ℕ) → D + count ≤ i → ShowsNumber r.rows i (region_of n [])
  pub random : (i : ℕ) → i < D + count → slice_index_or r.random.items i false ≡ not (parity_preserved n D i back)

-- a step's own parity is there: a detector in front of the point, or the observable
abbrev pub HasParity : RegionWalk → Step → Type 0
HasParity r (detector ks) = 0 < r.rows.detector_end
HasParity r (observable j ks) = r.rows.observable + j < length r.random.items
HasParity r x = Unit {0}

-- what a step asks for about parity i, of D detectors, this many of which are before the steps after it
abbrev pub asked_of : (D before i : ℕ) → Step → List ℕ
asked_of D before i x = if nat_lt i D then (if is_detector x && (i + 1 == before) then named_by_detector x else []) else asks_observable (i - D) x

-- wherever the regions are those before some last steps, they come to those before one step more
abbrev pub MovesTo : Step → (old new : RegionWalk) → Type 0
MovesTo x old new = (n D count : ℕ) (back : List Step) → IsRegionsAt n D count back old → IsRegionsAt n D count (x ∷ back) new

-- these bits say for each parity whether it is deterministic, if the point is the circuit's start
pub record DetermineDeterministic (r : RegionWalk) (deterministic : List Bool) : Type 0 where
  pub count : length deterministic ≡ length r.random.items
  pub value : (n D count : ℕ) (back : List Step) → IsRegionsAt n D count back r → (i : ℕ) → i < D + count
      → slice_index_or deterministic i false ≡ parity_deterministic n D i back

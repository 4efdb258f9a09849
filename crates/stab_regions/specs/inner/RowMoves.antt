-- Moves of rows: what a step asks for by its own number, and how it changes the rows of regions by numbers.
use Rattle.std.specs.Prelude.{◌≡◌, ℕ, ◌+◌, ◌-◌, ◌==◌, ◌<◌, ◌^◌, Bool, true, false, ◌&&◌, List, [], ◌∷◌, ◌++◌, length, if◌then◌else◌}
use Rattle.stab_items.specs.Steps.{Step, one, two, controlled, collapse, product, detector, observable, is_detector, makes}
use Rattle.stab_regions.specs.declared.region_rows.RegionRows.{RegionRows}
use Rattle.stab_regions.specs.Regions.{Region, region_before, with_looks}
use Rattle.stab_regions.specs.Rows.{ShowsLooks, ShowsRegion}

-- the rows show the region of number i
abbrev pub ShowsNumber : RegionRows → ℕ → Region → Type 0
ShowsNumber r i region = ShowsRegion i r.by_x.items r.by_z.items r.records.items region

-- this many detectors are before a step, of those that are before the steps after it
abbrev pub in_front_of : Step → ℕ → ℕ
in_front_of x before = if is_detector x then before - 1 else before

-- what a step asks for about number i: its own record, or those of its detector or observable, if these numbers are one more than those of
-- its record and of its detector, and that of the first observable; no record has a number if the first of them is 0
abbrev pub asked_about : (record_end detector_end observable i : ℕ) → Step → List ℕ
asked_about r d o i (one g q) = []
asked_about r d o i (two g a b) = []
asked_about r d o i (controlled l k q) = []
asked_about r d o i (collapse l q true inverted resets) = if i + 1 == r then 1 ∷ [] else []
asked_about r d o i (collapse l q false inverted resets) = []
asked_about r d o i (product factors inverted) = if i + 1 == r then 1 ∷ [] else []
asked_about r d o i (detector ks) = if i + 1 == d then ks else []
asked_about r d o i (observable j ks) = if i == o + j then ks else []

-- the number of a detector, or of an observable
abbrev pub HasOwn : (detector_end observable : ℕ) → Step → Type 0
HasOwn d o (detector ks) = 0 < d
HasOwn d o (observable j ks) = o + j < 2 ^ 32
HasOwn d o (one g q) = Unit {0}
HasOwn d o (two g a b) = Unit {0}
HasOwn d o (controlled l k q) = Unit {0}
HasOwn d o (collapse l q recorded inverted resets) = Unit {0}
HasOwn d o (product factors inverted) = Unit {0}

-- a step's own numbers fit
pub record HasNumbers (r : RegionRows) (x : Step) : Type 0 where
  pub record_few : r.record_end < 2 ^ 32
  pub detector_few : r.detector_end < 2 ^ 32
  pub own : HasOwn r.detector_end r.observable x

-- the newest record is asked for by its own number, if there is one
pub record BeginsRecord (recorded : Bool) (old new : RegionRows) : Type 0 where
  pub by_x : new.by_x ≡ old.by_x
  pub by_z : new.by_z ≡ old.by_z
  pub record_end : new.record_end ≡ (if recorded then old.record_end - 1 else old.record_end)
  pub detector_end : new.detector_end ≡ old.detector_end
  pub observable : new.observable ≡ old.observable
  pub looks : (i : ℕ) (looks : List ℕ) → ShowsLooks i old.records.items looks
      → ShowsLooks i new.records.items ((if recorded then (if i + 1 == old.record_end then 1 ∷ [] else []) else []) ++ looks)

-- a step that corrects by what it measures, if it is a reset and the bit is 1
abbrev pub corrected_by : Bool → Step → Step
corrected_by b (collapse l q recorded inverted resets) = collapse l q recorded inverted (b && resets)
corrected_by b (one g q) = one g q
corrected_by b (two g i j) = two g i j
corrected_by b (controlled l k q) = controlled l k q
corrected_by b (product factors inverted) = product factors inverted
corrected_by b (detector ks) = detector ks
corrected_by b (observable j ks) = observable j ks

-- rows are moved from after a step x to before it, as by a step y
pub record MovesRows (n : ℕ) (x y : Step) (old new : RegionRows) : Type 0 where
  pub rows : length new.by_z.items ≡ length old.by_z.items
  pub qubits : length new.by_x.items ≡ length old.by_x.items
  pub record_end : new.record_end ≡ old.record_end - makes x
  pub detector_end : new.detector_end ≡ in_front_of x old.detector_end
  pub observable : new.observable ≡ old.observable
  pub regions : (i : ℕ) (r : Region) → length r.string.letters ≡ n → ShowsNumber old i r
      → ShowsNumber new i (region_before n y (with_looks (asked_about old.record_end old.detector_end old.observable i x) r))

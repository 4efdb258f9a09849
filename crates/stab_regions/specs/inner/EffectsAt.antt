-- Effects at a point: what the pass backwards holds of them between two steps, and how one step changes it.
use Rattle.std.specs.Prelude.{◌≡◌, ℕ, zero, suc, ◌+◌, ◌-◌, ◌*◌, ◌==◌, ◌<◌, ◌^◌, Bool, true, false, ◌&&◌, List, [], ◌∷◌, length, slice_set, if◌then◌else◌}
use Rattle.stab_gates.specs.declared.letter.Letter.{Letter}
use Rattle.stab_gates.specs.declared.letter.Letter.TheVariants as letter
use Rattle.stab_pauli.specs.Paulis.{single, anticommute}
use Rattle.stab_frames.specs.inner.Touches.{acts}
use Rattle.stab_items.specs.Steps.{Step, one, two, controlled, collapse, product, detector, observable, records_of, detectors_of}
use Rattle.stab_regions.specs.declared.region_rows.RegionRows.{RegionRows}
use Rattle.stab_regions.specs.SingleErrors.{numbers_where}
use Rattle.stab_regions.specs.Regions.{Region, region_before, with_looks}
use Rattle.stab_regions.specs.inner.RowMoves.{corrected_by, asked_about, ShowsNumber}
use Rattle.stab_regions.specs.inner.Inserted.{Inserted}
use Rattle.stab_regions.specs.declared.counts.Counts.{Counts}

-- letters without that of a qubit, if the bit is 1
abbrev pub cleared : Bool → ℕ → List Letter → List Letter
cleared true q letters = slice_set letters q letter.I
cleared false q letters = letters

-- a region without a letter where a step resets: no letter in front of it is left after it
abbrev pub cleared_by : Step → Region → Region
cleared_by (collapse l q recorded inverted resets) r =
    record { string = record { negative = r.string.negative; letters = cleared (resets && acts l) q r.string.letters }; looks = r.looks }
cleared_by (one g q) r = r
cleared_by (two g a b) r = r
cleared_by (controlled l k q) r = r
cleared_by (product factors inverted) r = r
cleared_by (detector ks) r = r
cleared_by (observable j ks) r = r

-- the region before a step, by the one after it
abbrev pub effect_before : ℕ → Step → Region → Region
effect_before n x r = region_before n (corrected_by false x) (cleared_by x r)

-- the letters that anticommute with the part of number i of a letter at the end, if the first part has this number
abbrev pub end_letters : (i first n : ℕ) → List Letter
end_letters i first zero = []
end_letters i first (suc n) = (if first == i then letter.Z else if first + 1 == i then letter.X else letter.I) ∷ end_letters i (first + 2) n

-- how many numbers there are before those of the letters, and in all
abbrev pub first_part : Counts → ℕ
first_part c = (c.records + c.detectors) + c.observables

abbrev pub numbers_in : Counts → ℕ
numbers_in c = first_part c + 2 * c.qubits

-- the region of number i before the last steps
abbrev pub effect_region : Counts → ℕ → (back : List Step) → Region
effect_region c i [] = record { string = record { negative = false; letters = end_letters i (first_part c) c.qubits }; looks = [] }
effect_region c i (x ∷ back) =
    effect_before c.qubits x
    (with_looks (asked_about (c.records - records_of back) ((c.records + c.detectors) - detectors_of back) (c.records + c.detectors) i x) (effect_region c i back))

-- the effects before the last steps
pub record IsEffectsAt (c : Counts) (back : List Step) (e : RegionRows) : Type 0 where
  pub rows : length e.by_z.items ≡ length e.by_x.items
  pub qubits : length e.by_x.items ≡ c.qubits
  pub record_end : e.record_end ≡ c.records - records_of back
  pub detector_end : e.detector_end ≡ (c.records + c.detectors) - detectors_of back
  pub observable : e.observable ≡ c.records + c.detectors
  pub few : numbers_in c < 2 ^ 32
  pub regions : (i : ℕ) → ShowsNumber e i (effect_region c i back)

-- the rows of a qubit are empty, if the bit is 1
pub record ClearsQubit (reset : Bool) (qubit : ℕ) (old new : RegionRows) : Type 0 where
  pub by_x : new.by_x.items ≡ (if reset then slice_set old.by_x.items qubit [] else old.by_x.items)
  pub by_z : new.by_z.items ≡ (if reset then slice_set old.by_z.items qubit [] else old.by_z.items)
  pub records : new.records ≡ old.records
  pub record_end : new.record_end ≡ old.record_end
  pub detector_end : new.detector_end ≡ old.detector_end
  pub observable : new.observable ≡ old.observable

-- the letters where a step resets are taken away
pub record ClearsReset (x : Step) (old new : RegionRows) : Type 0 where
  pub rows : length new.by_z.items ≡ length old.by_z.items
  pub qubits : length new.by_x.items ≡ length old.by_x.items
  pub record_end : new.record_end ≡ old.record_end
  pub detector_end : new.detector_end ≡ old.detector_end
  pub observable : new.observable ≡ old.observable
  pub regions : (i : ℕ) (r : Region) → ShowsNumber old i r → ShowsNumber new i (cleared_by x r)

-- wherever the effects are those before some last steps, they come to those before one step more
abbrev pub EffectsMoveTo : Step → (old new : RegionRows) → Type 0
EffectsMoveTo x old new = (c : Counts) (back : List Step) → IsEffectsAt c back old → IsEffectsAt c (x ∷ back) new

-- the numbers of what a letter flips and leaves
abbrev pub effect_row : Counts → Inserted → List ℕ
effect_row c f = numbers_where (λ i. anticommute (single c.qubits f.qubit f.letter) (effect_region c i f.back).string) 0 (numbers_in c)

-- Sweeps: the rows of single errors after a point, as the pass backwards leaves them there.
use Rattle.std.specs.Prelude.{◌≡◌, ℕ, ◌+◌, List, map, reverse}
use Rattle.stab_items.specs.Steps.{Step}
use Rattle.stab_regions.specs.SingleErrors.{numbers_where}
use Rattle.stab_regions.specs.Parities.{parity_flips}
use Rattle.stab_regions.specs.declared.sites.Asked.{Asked}
use Rattle.stab_regions.specs.declared.sweep.Sweep.{Sweep}
use Rattle.stab_regions.specs.declared.walk.Numbered.{Numbered}
use Rattle.stab_regions.specs.declared.walk.Numbered.TheVariants.{Parities, Effects}
use Rattle.stab_regions.specs.declared.walk.RegionWalk.{RegionWalk}
use Rattle.stab_regions.specs.inner.EffectsAt.{IsEffectsAt, effect_row}
use Rattle.stab_regions.specs.inner.Inserted.{Inserted, inserted_from}
use Rattle.stab_regions.specs.declared.counts.Counts.{Counts}
use Rattle.stab_regions.specs.inner.RegionsAt.{IsRegionsAt}
use Rattle.stab_regions.specs.inner.Sites.{sites_asked}

-- a walk is before the last steps, by what has numbers in it
abbrev pub IsWalkOf : Numbered → RegionWalk → Counts → List Step → Type 0
IsWalkOf Parities w c back = IsRegionsAt c.qubits c.detectors c.observables back w
IsWalkOf Effects w c back = IsEffectsAt c back w.rows

abbrev pub IsWalkAt : RegionWalk → Counts → List Step → Type 0
IsWalkAt w = IsWalkOf w.numbered w

-- the parities that a letter flips
abbrev pub parity_row : Counts → Inserted → List ℕ
parity_row c f = numbers_where (λ i. parity_flips c.qubits c.detectors i f.letter f.qubit f.back) 0 (c.detectors + c.observables)

-- the numbers of what it flips and leaves
abbrev pub row_of : Numbered → Counts → Inserted → List ℕ
row_of Parities = parity_row
row_of Effects = effect_row

-- the pass has come to the last steps
pub record IsSwept (asked : Asked) (s : Sweep) (c : Counts) (back : List Step) : Type 0 where
  pub walk : IsWalkAt s.walk c back
  pub rows : reverse s.rows ≡ map (row_of s.walk.numbered c) (inserted_from (sites_asked asked) back)

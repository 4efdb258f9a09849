-- Covers: how many of the flipped detectors each error flips.
use Rattle.std.specs.Prelude.{◌≡◌, ℕ, ◌+◌, ◌<◌, ◌≤◌, true, false, List, [], ◌∷◌, length, slice_index, if◌then◌else◌}
use Rattle.std.specs.Global.{Vec}
use Rattle.stab_parities.specs.OddNumbers.{odd, row}
use Rattle.stab_search.specs.inner.Indexes.{rows_listed}
use Rattle.stab_search.specs.inner.Lists.{has}

-- how many of these detectors error e flips
abbrev pub shares : List (List ℕ) → ℕ → List ℕ → ℕ
shares rows e [] = 0
shares rows e (d ∷ ds) = (if odd d (row rows e) then 1 else 0) + shares rows e ds

-- an error that may be tried after the first one with those chosen
pub record MayBe (pairs : List (Vec ℕ)) (first : ℕ) (path : List ℕ) (e : ℕ) : Type 0 where
  pub later : first < e
  pub fresh : has e path ≡ false
  pub unpaired : (a : ℕ) → has a path ≡ true → has e (rows_listed pairs a) ≡ false

-- each such error has at least the number of these detectors that it flips
abbrev pub CoversEach : List (List ℕ) → List (Vec ℕ) → ℕ → List ℕ → List ℕ → List ℕ → Type 0
CoversEach rows pairs first path ds cover = (e : ℕ) → e < length rows → MayBe pairs first path e → shares rows e ds ≤ slice_index cover e

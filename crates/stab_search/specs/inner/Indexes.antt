-- Indexes: rows listed by positions, such as the detectors that they flip.
use Rattle.std.specs.Prelude.{◌≡◌, ℕ, zero, suc, ◌<◌, true, List, [], ◌∷◌, length, slice_index, bit_and}
use Rattle.std.specs.Global.{Vec}
use Rattle.stab_parities.specs.OddNumbers.{odd, row}
use Rattle.stab_search.specs.inner.Lists.{ForEach, has}

-- the rows listed at a position; none past the end
abbrev pub rows_listed : List (Vec ℕ) → ℕ → List ℕ
rows_listed [] position = []
rows_listed (rows ∷ index) zero = rows.items
rows_listed (rows ∷ index) (suc position) = rows_listed index position

-- each row is listed at each detector that it flips
pub record ListsDetectors (rows : List (List ℕ)) (index : List (Vec ℕ)) : Type 0 where
  pub inside : (d : ℕ) → ForEach (λ r. r < length rows) (rows_listed index d)
  pub complete : (d r : ℕ) → r < length rows → odd d (row rows r) ≡ true → has r (rows_listed index d) ≡ true

-- each row is listed at the low bits of its key
pub record ListsKeys (keys : List ℕ) (mask : ℕ) (index : List (Vec ℕ)) : Type 0 where
  pub inside : (position : ℕ) → ForEach (λ r. r < length keys) (rows_listed index position)
  pub complete : (r : ℕ) → r < length keys → has r (rows_listed index (bit_and (slice_index keys r) mask)) ≡ true

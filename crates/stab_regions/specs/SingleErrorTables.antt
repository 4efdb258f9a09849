-- Single error tables: what contracts see of one.
use Rattle.std.specs.Prelude.{ℕ, Bool, List}

-- which bits are deterministic, and the rows: for each single error the numbers of the deterministic bits that it flips
pub record SingleErrorTableState : Type 0 where
  pub deterministic : List Bool
  pub rows : List (List ℕ)

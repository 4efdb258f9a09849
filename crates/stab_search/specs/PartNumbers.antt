-- The numbers of a part.
-- Source: this project's own.
use Rattle.std.specs.Prelude.{ℕ}

-- a part's number from 0 on, and how many parts there are
pub record PartNumbers : Type 0 where
  pub index : ℕ
  pub count : ℕ

-- the most parts that a search has
abbrev pub most_parts : ℕ
most_parts = 1000000

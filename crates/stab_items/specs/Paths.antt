-- Paths: where an item is or an edit is made.
-- Source: this project's own.
use Rattle.std.specs.Prelude.{ℕ, List, [], ◌∷◌, ◌++◌, map}
use Rattle.std.specs.List.{join_with_byte}
use Rattle.std.specs.Fmt.{decimal}

-- a path: the positions of the blocks around, the outermost first, and a position in the innermost list
pub record Path : Type 0 where
  pub blocks : List ℕ
  pub position : ℕ

-- the numbers of a path
abbrev pub numbers : Path → List ℕ
numbers p = p.blocks ++ p.position ∷ []

-- the byte of a slash
abbrev pub slash : ℕ
slash = 47

-- the text of a path: its numbers in decimal, joined by slashes
abbrev pub path_text : Path → List ℕ
path_text p = join_with_byte slash (map decimal (numbers p))

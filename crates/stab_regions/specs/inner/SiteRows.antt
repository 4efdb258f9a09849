-- Rows of sites: those of X and then Z on a qubit, in front of a step and after it.
use Rattle.std.specs.Prelude.{ℕ, List, [], ◌∷◌, ◌++◌}
use Rattle.stab_parities.specs.Ascending.{IsAscending}
use Rattle.stab_parities.specs.OddNumbers.{row}
use Rattle.stab_regions.specs.declared.sites.Sides.{Sides}
use Rattle.stab_regions.specs.inner.Sites.{where_asked}

-- what X and then Z on a qubit flip
abbrev pub rows_on : (by_x by_z : List (List ℕ)) → ℕ → List (List ℕ)
rows_on by_x by_z q = row by_x q ∷ row by_z q ∷ []

-- on the sides of a step that are asked for
abbrev pub rows_around : Sides → (by_x by_z after_x after_z : List (List ℕ)) → ℕ → List (List ℕ)
rows_around sides by_x by_z after_x after_z q = where_asked sides.front (rows_on by_x by_z q) ++ where_asked sides.following (rows_on after_x after_z q)

-- both rows of a qubit ascend
abbrev pub Ascend : (by_x by_z : List (List ℕ)) → ℕ → Type 0
Ascend by_x by_z q = IsAscending (row by_x q) × IsAscending (row by_z q)

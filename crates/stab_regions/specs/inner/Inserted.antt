-- Inserted letters: those that the single errors of some last steps put in.
use Rattle.std.specs.Prelude.{ℕ, List, [], ◌∷◌, ◌++◌, if◌then◌else◌}
use Rattle.std.specs.List.{flat_map}
use Rattle.stab_gates.specs.declared.letter.Letter.{Letter}
use Rattle.stab_gates.specs.declared.letter.Letter.TheVariants as letter
use Rattle.stab_items.specs.Steps.{Step}
use Rattle.stab_regions.specs.SingleErrors.{Site}
use Rattle.stab_regions.specs.declared.sites.Sides.{Sides}
use Rattle.stab_regions.specs.inner.Sites.{where_asked}

-- a letter that is put in on a qubit, before these last steps
pub record Inserted : Type 0 where
  pub letter : Letter
  pub qubit : ℕ
  pub back : List Step

-- X, then Z
abbrev pub inserted_on : ℕ → List Step → List Inserted
inserted_on q back = record { letter = letter.X; qubit = q; back = back } ∷ record { letter = letter.Z; qubit = q; back = back } ∷ []

-- at a site of a step
abbrev pub inserted_at : Step → List Step → Site → List Inserted
inserted_at x back s = inserted_on s.qubit (if s.following then back else x ∷ back)

-- on a qubit of a step, on the sides that are asked for
abbrev pub inserted_by : Sides → Step → List Step → ℕ → List Inserted
inserted_by sides x back q = where_asked sides.front (inserted_on q (x ∷ back)) ++ where_asked sides.following (inserted_on q back)

-- all that are asked for at the last steps
abbrev pub inserted_from : (Step → List Site) → List Step → List Inserted
inserted_from sites [] = []
inserted_from sites (x ∷ back) = flat_map (inserted_at x back) (sites x) ++ inserted_from sites back

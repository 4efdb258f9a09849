-- Letters with an X part.
-- Source: the bits x of Aaronson and Gottesman 2004, section III.
use Rattle.std.specs.Prelude.{Bool, true, false}
use Rattle.stab_gates.specs.declared.letter.Letter.{Letter}
use Rattle.stab_gates.specs.declared.letter.Letter.TheVariants.{I, X, Y, Z}

-- whether a letter has an X part: X and Y do, I and Z do not
abbrev pub has_x : Letter → Bool
has_x I = false
has_x X = true
has_x Y = true
has_x Z = false

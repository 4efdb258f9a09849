-- Error numbers: the line of an error by the numbers of what it flips, and the letters that are left by the numbers of their parts.
use Rattle.std.specs.Prelude.{ℕ, ◌+◌, ◌-◌, ◌/◌, ◌%◌, ◌==◌, List, [], ◌∷◌, ◌++◌, codes, if◌then◌else◌}
use Rattle.std.specs.List.{flat_map}
use Rattle.stab_gates.specs.declared.letter.Letter.TheVariants as letter
use Rattle.stab_items.specs.Items.{Items}
use Rattle.stab_results.specs.Formats.{entry}
use Rattle.stab_regions.specs.SingleErrors.{SingleError}
use Rattle.stab_ways.specs.declared.way.PlacedLetter.{PlacedLetter}
use Rattle.stab_report.specs.CoinTables.{whole_kinds}
use Rattle.stab_report.specs.SingleErrorTables.{single_error_text}
use Rattle.stab_report.specs.ItemPaths.{path_at}
use Rattle.stab_script.specs.WayTexts.{left_line}

-- the line of an error that flips the bits of these numbers
abbrev pub numbered_text : Items → SingleError → (flipped : List ℕ) → (left : List PlacedLetter) → List ℕ
numbered_text items f flipped left =
    single_error_text f.before (path_at items f.step) f.letter f.qubit ++ (flat_map (entry (whole_kinds items)) flipped ++ (codes " " ++ left_line left))

-- a letter of one part: X of an even part, Z of an odd one
abbrev pub part_letter : (part : ℕ) → PlacedLetter
part_letter part = record { letter = if part % 2 == 1 then letter.Z else letter.X; qubit = part / 2 }

abbrev pub both_letter : (part : ℕ) → PlacedLetter
both_letter part = record { letter = letter.Y; qubit = part / 2 }

-- the letters whose parts have these numbers, if those of qubit 0 have the first one and the next
abbrev pub letters_numbered : (first : ℕ) → List ℕ → List PlacedLetter
letters_numbered first [] = []
letters_numbered first (a ∷ []) = part_letter (a - first) ∷ []
letters_numbered first (a ∷ b ∷ rest) =
    if (a - first) % 2 == 1 then part_letter (a - first) ∷ letters_numbered first (b ∷ rest)
    else if b == a + 1 then both_letter (a - first) ∷ letters_numbered first rest
    else part_letter (a - first) ∷ letters_numbered first (b ∷ rest)

-- Rows: the lines of strings, and what they show.
-- Source: this project's own.
use Rattle.std.specs.Prelude.{◌≡◌, ℕ, Bool, List, ◌++◌, codes, ◌↔◌}
use Rattle.std.specs.List.{flat_map}
use Rattle.stab_pauli.specs.Paulis.{Signed}
use Rattle.stab_pauli.specs.Texts.{pauli_text}
use Rattle.stab_tableau.specs.Groups.{IsStabiliserGroup, SameGroup}
use Rattle.stab_tableau.specs.Reduced.{AreReduced}
use Rattle.stab_tableau.specs.Traces.{member}
use Rattle.stab_run.specs.Runs.{State}

-- the line of a string: its text, and a line feed
abbrev pub line_of : Signed → List ℕ
line_of row = pauli_text row ++ codes "\n"

-- lines one after another
abbrev pub lines_of : List Signed → List ℕ
lines_of rows = flat_map line_of rows

-- the lines of the reduced rows of the strings that stabilise the state after a run
abbrev pub IsStabilisersText : ℕ → State → List ℕ → Type 0
IsStabilisersText n run text = (rows : List Signed) × AreReduced n (member run.trace) rows × (text ≡ lines_of rows)

-- two stabiliser groups are one if and only if the lines of their reduced rows are the same
abbrev pub SameGroupSameLines : Type 0
SameGroupSameLines =
    (n : ℕ) (s t : Signed → Bool) → IsStabiliserGroup n s → IsStabiliserGroup n t → (a b : List Signed) →
    AreReduced n s a → AreReduced n t b → SameGroup n s t ↔ (lines_of a ≡ lines_of b)

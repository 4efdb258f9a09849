-- Propagated tableaus: what a frame makes of a tableau is signs of its rows.
-- Source: this project's own, for the tableau of Aaronson and Gottesman 2004, section III, stored as rows of the inverse.
use Rattle.std.specs.Prelude.{List, [], ◌∷◌}
use Rattle.stab_gates.specs.declared.letter.Letter.{Letter}
use Rattle.stab_gates.specs.declared.letter.Letter.TheVariants.{X, Z}
use Rattle.stab_gates.specs.Letters.{letters_anticommute}
use Rattle.stab_pauli.specs.Paulis.{with_sign}
use Rattle.stab_tableau.specs.Tableaus.{TableauState}
use Rattle.stab_tableau.specs.inner.InverseRows.{InverseRows}

-- the preimage of X on a qubit with its sign flipped if the letter there anticommutes with X, and that of Z likewise
abbrev pub propagated_rows : List Letter → List InverseRows → List InverseRows
propagated_rows [] rows = rows
propagated_rows (l ∷ f) [] = []
propagated_rows (l ∷ f) (r ∷ rows) =
    record { x = with_sign (letters_anticommute l X) r.x; z = with_sign (letters_anticommute l Z) r.z } ∷ propagated_rows f rows

-- a tableau with such rows
abbrev pub propagated_tableau : List Letter → TableauState → TableauState
propagated_tableau f t = record { qubits = t.qubits; rows = propagated_rows f t.rows }

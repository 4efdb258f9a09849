-- Tables: what a tableau keeps, and what a measurement makes of its rows.
-- Source: this project's own; the conditions are those on rows in Aaronson and Gottesman 2004, section III.
use Rattle.std.specs.Prelude.{◌≡◌, ℕ, Bool, false, List, length}
use Rattle.stab_pauli.specs.Paulis.{Signed}
use Rattle.stab_tableau.specs.Rules.{outcome_by, is_random_by, projected_by}
use Rattle.stab_tableau.specs.Tableaus.{stabilises}
use Rattle.stab_tableau.specs.inner.InverseRows.{InverseRows, IsOver, IsInverseTable, IsOnto}

-- what a tableau keeps: rows by which preimages keep products and reach every string, and rows of their size to work with
pub record IsTableau (n : ℕ) (rows : List InverseRows) (scratch : InverseRows) : Type 0 where
  pub table : IsInverseTable n rows
  pub onto : IsOnto n rows
  pub size : IsOver n scratch

-- what a measurement of p with a coin makes of rows, and what it answers
pub record AreRowsMeasured (n : ℕ) (rows : List InverseRows) (p : Signed) (coin : Bool) (outcome free : Bool) (new : List InverseRows) (scratch : InverseRows) : Type 0 where
  pub tableau : IsTableau n new scratch
  pub outcome_is : outcome ≡ outcome_by (stabilises (record { qubits = n; rows = rows })) p coin
  pub random_is : free ≡ is_random_by (stabilises (record { qubits = n; rows = rows })) p
  pub members : (q : Signed) → length q.letters ≡ n
      → stabilises (record { qubits = n; rows = new }) q ≡ projected_by (stabilises (record { qubits = n; rows = rows })) p outcome q
  pub preserved : free ≡ false → new ≡ rows

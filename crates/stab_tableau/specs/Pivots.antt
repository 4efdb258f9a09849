-- Pivots: strings by which the two outcomes of a measurement come from each other.
-- Source: the two cases of a measurement in Aaronson and Gottesman 2004, section III: a random outcome is exchanged for the other
-- by a stabiliser that anticommutes with what is measured.
use Rattle.std.specs.Prelude.{◌≡◌, ℕ, Bool, true, List, length}
use Rattle.stab_gates.specs.declared.letter.Letter.{Letter}
use Rattle.stab_pauli.specs.Paulis.{Signed, strings_anticommute}

-- a string that with one of its signs stabilises, and that anticommutes with what is measured, exchanges the outcomes
pub record IsPivot (n : ℕ) (member : Signed → Bool) (measured : Signed) (letters : List Letter) : Type 0 where
  pub size : length letters ≡ n
  pub negative : Bool
  pub stabilises : member (record { negative = negative; letters = letters }) ≡ true
  pub anticommutes : strings_anticommute letters measured.letters ≡ true

-- Exchanged: what a step says of the coin that decides its outcome, and of its pivot.
-- Source: this project's own.
use Rattle.std.specs.Prelude.{◌≡◌, ℕ, Bool, true, false, List, Option, Some, None}
use Rattle.stab_gates.specs.declared.letter.Letter.{Letter}
use Rattle.stab_pauli.specs.Paulis.{Signed}
use Rattle.stab_tableau.specs.Rules.{is_random_by}
use Rattle.stab_tableau.specs.Pivots.{IsPivot}

-- of what is measured, if anything: whether a coin decides it, and letters that exchange its outcomes if one does
abbrev pub HasPivot : ℕ → (Signed → Bool) → Option Signed → Bool → List Letter → Type 0
HasPivot n member None free letters = free ≡ false
HasPivot n member (Some m) free letters = (free ≡ is_random_by member m) × (free ≡ true → IsPivot n member m letters)

-- Pivots of a run: what a frame has to know of the measurements of the run that it starts from.
-- Source: the two cases of a measurement in Aaronson and Gottesman 2004, section III: a random outcome comes from the other
-- by a stabiliser that anticommutes with what is measured.
use Rattle.std.specs.Prelude.{◌≡◌, ℕ, Bool, true, false, List, Option, Some, None}
use Rattle.stab_gates.specs.declared.letter.Letter.{Letter}
use Rattle.stab_gates.specs.Letters.{◌⊕◌}
use Rattle.stab_pauli.specs.Paulis.{Signed, strings_anticommute}
use Rattle.stab_tableau.specs.Rules.{is_random_by}
use Rattle.stab_tableau.specs.Pivots.{IsPivot}

-- by coin number: a pivot, if the outcome was random, and none if it was fixed; and whether the
-- coin of the other run differs
pub record RunPivots : Type 0 where
  pub strings : ℕ → Option (List Letter)
  pub changes : ℕ → Bool

-- pivots for another run whose coins differ if the bits are 1
abbrev pub pivots_of : (ℕ → Option (List Letter)) → (ℕ → Bool) → RunPivots
pivots_of strings changes = record { strings = strings; changes = changes }

-- for one with the same coins
abbrev pub same_coins : (ℕ → Option (List Letter)) → RunPivots
same_coins strings = pivots_of strings (λ t. false)

-- and if no pivot is recorded
abbrev pub no_strings : (ℕ → Bool) → RunPivots
no_strings changes = pivots_of (λ t. None) changes

-- coins that differ from others if the bits are 1
abbrev pub coins_changed : (ℕ → Bool) → (ℕ → Bool) → ℕ → Bool
coins_changed coins changes t = changes t ⊕ coins t

-- a pivot is right of a measurement: none if the outcome is fixed, and else a pivot
abbrev pub IsPivotOf : ℕ → (Signed → Bool) → Signed → Option (List Letter) → Type 0
IsPivotOf n member measured None = is_random_by member measured ≡ false
IsPivotOf n member measured (Some letters) = IsPivot n member measured letters

-- it is enough for a frame: right, unless the coins differ exactly if the frame anticommutes with what is measured, for then
-- each outcome, fixed or random, is flipped as the frame has it
abbrev pub IsEnough : ℕ → (Signed → Bool) → Signed → List Letter → Bool → Option (List Letter) → Type 0
IsEnough n member measured f change pivot = change ⊕ strings_anticommute f measured.letters ≡ true → IsPivotOf n member measured pivot

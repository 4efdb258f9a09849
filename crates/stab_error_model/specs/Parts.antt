-- Parts: what replaces an error that flips more than two detectors, if graph-like errors are asked for.
-- Source: C. Gidney, Stim: a fast stabilizer circuit simulator (2021), errors decomposed into graph-like ones.
use Rattle.std.specs.Prelude.{◌≡◌, ℕ, ◌⊎◌, Bool, true, false, List, [], ◌∷◌, ◌++◌}
use Rattle.stab_gates.specs.declared.letter.Letter.{Letter}
use Rattle.stab_gates.specs.declared.letter.Letter.TheVariants.{I, X, Y, Z}
use Rattle.stab_items.specs.Items.{Items}
use Rattle.stab_regions.specs.SingleErrors.{SingleError}
use Rattle.stab_error_model.specs.Errors.{Error, letter, letters, wrong_record, each_letter}
use Rattle.stab_error_model.specs.Unseen.{FlipsTwo}

-- the X and the Z that a letter is the product of
abbrev pub letter_parts : Letter → List Letter
letter_parts I = []
letter_parts X = X ∷ []
letter_parts Y = X ∷ Z ∷ []
letter_parts Z = Z ∷ []

-- these at its site, each an error by itself
abbrev pub single_error_parts : SingleError → List Error
single_error_parts f = each_letter (letter_parts f.letter) (λ l. record f { letter = l })

-- the parts of an error: the X and the Z at each of its sites; a wrong record has none
abbrev pub parts_of_error : Error → List Error
parts_of_error (letter f) = single_error_parts f
parts_of_error (letters f g) = single_error_parts f ++ single_error_parts g
parts_of_error (wrong_record number f back) = []

-- an error that flips at most two detectors stays, and any other gives way to its parts
abbrev pub GivesParts : (n : ℕ) → Items → Error → (given : List Error) → Type 0
GivesParts n items e given = (FlipsTwo n items e × (given ≡ e ∷ [])) ⊎ ((FlipsTwo n items e → ⊥) × (given ≡ parts_of_error e))

-- the same of errors, in order
abbrev pub AreSplit : (n : ℕ) → Items → (whole given : List Error) → Type 0
AreSplit n items [] given = given ≡ []
AreSplit n items (e ∷ es) given = (first rest : List Error) × GivesParts n items e first × AreSplit n items es rest × (given ≡ first ++ rest)

-- the errors that are searched: these themselves, or split if graph-like errors are asked for
abbrev pub AreSearched : (graphlike : Bool) → (n : ℕ) → Items → (whole searched : List Error) → Type 0
AreSearched false n items whole searched = searched ≡ whole
AreSearched true n items whole searched = AreSplit n items whole searched

-- Products: what a word means as a product of letters on different qubits.
-- Source: Stim's circuit file format, the targets of MPP. It differs in that no qubit occurs twice in a product.
use Rattle.std.specs.Prelude.{ℕ, Bool, false, ◌&&◌, ◌||◌, ◌==◌, List, [], ◌∷◌, drop, if◌then◌else◌, Option, Some, None, is_some, Result, Ok, Err}
use Rattle.std.specs.List.{list_all, list_any, slice_split}
use Rattle.stab_io.specs.declared.refusal.Refusal.{Refusal}
use Rattle.stab_io.specs.declared.refusal.Refusal.TheVariants.{BadTarget}
use Rattle.stab_instructions.specs.declared.axis.Axis.{Axis}
use Rattle.stab_instructions.specs.declared.product.Factor.{Factor}
use Rattle.stab_instructions.specs.Results.{◌>>=◌, each}
use Rattle.stab_instructions.specs.Lines.{is_byte, starts_with_byte}
use Rattle.stab_instructions.specs.Words.{is_number}
use Rattle.stab_instructions.specs.Axes.{first_axis}
use Rattle.stab_instructions.specs.Targets.{qubit_of}

-- without the ! in front if there is one
abbrev pub unmarked : List ℕ → List ℕ
unmarked word = if starts_with_byte word 33 then drop 1 word else word

-- whether it is spelled as a factor is: perhaps !, then X, Y or Z, then digits
unfoldable pub is_factor : List ℕ → Bool
is_factor word = is_some (first_axis (unmarked word)) && is_number (drop 1 (unmarked word))

-- a factor of this letter on the qubit of these digits
abbrev pub factor_on : Bool → List ℕ → Option Axis → Result Factor Refusal
factor_on inverted digits None = Err BadTarget
factor_on inverted digits (Some axis) = qubit_of digits >>= λ q. Ok (record { letter = axis; qubit = q; inverted = inverted })

-- a factor: a letter on a qubit, perhaps with ! before it
unfoldable pub factor_of : List ℕ → Result Factor Refusal
factor_of word = factor_on (starts_with_byte word 33) (drop 1 (unmarked word)) (first_axis (unmarked word))

-- whether one of the factors is on the qubit
abbrev pub is_on : ℕ → List Factor → Bool
is_on q factors = list_any (λ f. f.qubit == q) factors

-- whether two of the factors are on one qubit
abbrev pub names_twice : List Factor → Bool
names_twice [] = false
names_twice (f ∷ fs) = is_on f.qubit fs || names_twice fs

-- the factors, if they are on different qubits
abbrev pub on_different : List Factor → Result (List Factor) Refusal
on_different factors = if names_twice factors then Err BadTarget else Ok factors

-- a product of factors joined by *: spelling, then ranges, then whether a qubit occurs twice
unfoldable pub product_of : List ℕ → Result (List Factor) Refusal
product_of word =
    if list_all is_factor (slice_split (is_byte 42) word) then (each factor_of (slice_split (is_byte 42) word) >>= on_different)
    else Err BadTarget

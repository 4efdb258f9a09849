-- Targets: what a word means as a target of each kind.
-- Source: Stim's circuit file format. The ranges of qubits, observables and counts are this project's own.
use Rattle.std.specs.Prelude.{ℕ, ◌-◌, Bool, true, false, ◌&&◌, ◌||◌, not, nat_le, nat_lt, nat_eq, ◌==◌, List, [], ◌∷◌, length, drop, take, if◌then◌else◌, Option, Some, None, Result, Ok, Err, codes}
use Rattle.std.specs.List.{list_all, starts_with}
use Rattle.stab_io.specs.declared.refusal.Refusal.{Refusal}
use Rattle.stab_io.specs.declared.refusal.Refusal.TheVariants.{BadArguments, BadTarget, BadPairing, QubitOutOfRange, ObservableOutOfRange}
use Rattle.stab_gates.specs.Limits.{most_qubits}
use Rattle.stab_instructions.specs.declared.range.MeasureTarget.{MeasureTarget}
use Rattle.stab_instructions.specs.Limits.{most_observables, most_lookback}
use Rattle.stab_instructions.specs.Results.{◌>>=◌}
use Rattle.stab_instructions.specs.Lines.{is_digit, starts_with_byte, ends_with_byte}
use Rattle.stab_instructions.specs.Words.{is_some_word, is_number, value}

-- a qubit: a number below 1,024
unfoldable pub qubit_of : List ℕ → Result ℕ Refusal
qubit_of word =
    if not (is_number word) then Err BadTarget
    else if nat_lt (value word) most_qubits then Ok (value word)
    else Err QubitOutOfRange

-- a qubit, perhaps with ! before it
unfoldable pub measure_target_of : List ℕ → Result MeasureTarget Refusal
measure_target_of word =
    if starts_with_byte word 33 then (qubit_of (drop 1 word) >>= λ q. Ok (record { qubit = q; inverted = true }))
    else (qubit_of word >>= λ q. Ok (record { qubit = q; inverted = false }))

-- what is in the brackets of rec[-k]
abbrev pub lookback_digits : List ℕ → List ℕ
lookback_digits word = take (length word - 6) (drop 5 word)

-- whether it is written as rec[-k] is
abbrev pub is_lookback : List ℕ → Bool
is_lookback word = starts_with nat_eq word (codes "rec[-") && ends_with_byte word 93 && is_number (lookback_digits word)

-- a record: rec[-k] with k from 1 to 16,777,215
unfoldable pub lookback_of : List ℕ → Result ℕ Refusal
lookback_of word =
    if is_lookback word && nat_lt 0 (value (lookback_digits word)) && nat_le (value (lookback_digits word)) most_lookback then Ok (value (lookback_digits word))
    else Err BadTarget

-- a count of rounds, at least one and of at most 18 digits; or digits that are no count
unfoldable pub count_of : List ℕ → Result (Option ℕ) Refusal
count_of word =
    if not (is_number word) then Err BadTarget
    else if nat_lt 18 (length word) || (value word == 0) then Ok None
    else Ok (Some (value word))

-- pairs of neighbours, of two different qubits each
abbrev pub pairs_of : List ℕ → Result (List (ℕ × ℕ)) Refusal
pairs_of [] = Ok []
pairs_of (a ∷ []) = Err BadPairing
pairs_of (a ∷ b ∷ rest) = if a == b then Err BadPairing else (pairs_of rest >>= λ more. Ok ((a, b) ∷ more))

-- the qubits of pairs
abbrev pub pair_qubits : List (ℕ × ℕ) → List ℕ
pair_qubits [] = []
pair_qubits (pair ∷ pairs) = pair.0 ∷ pair.1 ∷ pair_qubits pairs

-- whether the byte may be in a coordinate: a digit, +, -, ., e or E
abbrev pub is_coordinate_byte : ℕ → Bool
is_coordinate_byte b = is_digit b || (b == 43) || (b == 45) || (b == 46) || (b == 101) || (b == 69)

-- a coordinate, as it is written
unfoldable pub coordinate_of : List ℕ → Result (List ℕ) Refusal
coordinate_of argument = if is_some_word argument && list_all is_coordinate_byte argument then Ok argument else Err BadArguments

-- the argument, if there is exactly one
abbrev pub one_argument : List (List ℕ) → Result (List ℕ) Refusal
one_argument (argument ∷ []) = Ok argument
one_argument arguments = Err BadArguments

-- the digits of an only argument
unfoldable pub number_of : List (List ℕ) → Result (List ℕ) Refusal
number_of arguments = one_argument arguments >>= λ argument. if is_number argument then Ok argument else Err BadArguments

-- an observable: a number below 4,096
unfoldable pub observable_of : List ℕ → Result ℕ Refusal
observable_of digits = if nat_lt (value digits) most_observables then Ok (value digits) else Err ObservableOutOfRange

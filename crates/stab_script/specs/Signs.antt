-- Signs: the Pauli string of a word on some qubits, and with which sign it stabilises.
-- Source: this project's own; a product is written as the targets of Stim's MPP are.
use Rattle.std.specs.Prelude.{ℕ, Bool, true, false, ◌||◌, ◌==◌, nat_lt, List, length, map, drop, codes, if◌then◌else◌, Option, Some, None, Result, Ok, Err}
use Rattle.std.specs.List.{list_all}
use Rattle.stab_io.specs.declared.refusal.Refusal.{Refusal}
use Rattle.stab_io.specs.declared.refusal.Refusal.TheVariants.{BadTarget, QubitOutOfRange}
use Rattle.stab_gates.specs.declared.letter.Letter.{Letter}
use Rattle.stab_gates.specs.declared.letter.Letter.TheVariants as letter
use Rattle.stab_pauli.specs.Paulis.{Signed, with_sign, minus}
use Rattle.stab_instructions.specs.declared.product.Factor.{Factor}
use Rattle.stab_instructions.specs.Results.{◌>>=◌}
use Rattle.stab_instructions.specs.Lines.{starts_with_byte}
use Rattle.stab_instructions.specs.Products.{product_of}
use Rattle.stab_items.specs.Steps.{is_inverted}
use Rattle.stab_run.specs.Runs.{string_of}

-- the word without its sign, if it has one
abbrev pub unsigned : List ℕ → List ℕ
unsigned word = if starts_with_byte word 43 || starts_with_byte word 45 then drop 1 word else word

-- whether a byte is a letter of a string: I or _, X, Y, Z
abbrev pub is_string_byte : ℕ → Bool
is_string_byte b = b == 73 || (b == 95 || (b == 88 || (b == 89 || b == 90)))

-- the letter of such a byte
abbrev pub letter_of_byte : ℕ → Letter
letter_of_byte b = if b == 88 then letter.X else if b == 89 then letter.Y else if b == 90 then letter.Z else letter.I

-- the string of one letter for each qubit
abbrev pub lettered : (n : ℕ) → List ℕ → Result Signed Refusal
lettered n word = if length word == n then Ok (record { negative = false; letters = map letter_of_byte word }) else Err BadTarget

-- the string of factors, if all are on qubits below n
abbrev pub string_within : (n : ℕ) → List Factor → Result Signed Refusal
string_within n factors = if list_all (λ f. nat_lt f.qubit n) factors then Ok (with_sign (is_inverted factors) (string_of n factors)) else Err QubitOutOfRange

-- the string of letters, or of a product
abbrev pub string_without_sign : (n : ℕ) → List ℕ → Result Signed Refusal
string_without_sign n word = if list_all is_string_byte word then lettered n word else (product_of word >>= λ factors. string_within n factors)

-- the string of a word on n qubits
unfoldable pub string_of_word : (n : ℕ) → List ℕ → Result Signed Refusal
string_of_word n word = string_without_sign n (unsigned word) >>= λ p. Ok (with_sign (starts_with_byte word 45) p)

-- the sign with which a string is in a group, true for -, if it is with one
abbrev pub sign_in : (Signed → Bool) → Signed → Option Bool
sign_in group p = if group p then Some false else if group (minus p) then Some true else None

-- the line of a sign
abbrev pub sign_line : Option Bool → List ℕ
sign_line None = codes "0\n"
sign_line (Some false) = codes "+\n"
sign_line (Some true) = codes "-\n"

-- Plain lines: how the code reads an instruction on numbers alone off the front of a text, up to the end of its line.
-- Source: this project's own.
use Rattle.std.specs.Prelude.{◌≡◌, ◌≢◌, ℕ, true, false, List, [], ◌∷◌, ◌++◌, Option, None, Some, Result, Ok, Err}
use Rattle.std.specs.Borrow.{Bor}
use Rattle.std.specs.Option.{option_copied}
use Rattle.std.specs.List.{list_all}
use Rattle.stab_io.specs.declared.refusal.Refusal.{Refusal}
use Rattle.stab_io.specs.declared.refusal.Refusal.TheVariants.{OutOfMemory}
use Rattle.stab_instructions.specs.declared.name.Instruction.{Instruction}
use Rattle.stab_instructions.specs.declared.operation.Kind.{Kind}
use Rattle.stab_instructions.specs.Results.{◌>>=◌, each}
use Rattle.stab_instructions.specs.Lines.{Shape}
use Rattle.stab_instructions.specs.Words.{is_number}
use Rattle.stab_instructions.specs.Targets.{qubit_of, pairs_of}
use Rattle.stab_instructions.specs.Meanings.{kind_of}
use Rattle.stab_instructions.specs.Prints.{spaced}
use Rattle.stab_circuit.specs.inner.FrontTargets.{follows}

-- the bytes are a space, this qubit in digits, and the rest
abbrev pub IsSpacedQubit : List ℕ → ℕ → List ℕ → Type 0
IsSpacedQubit bs q rest = (ds : List ℕ) × (bs ≡ 32 ∷ (ds ++ rest)) × (is_number ds ≡ true) × (qubit_of ds ≡ Ok q)

-- the bytes are two different qubits, each after a space, and the rest
abbrev pub IsSpacedPair : List ℕ → ℕ × ℕ → List ℕ → Type 0
IsSpacedPair bs pair rest = (more : List ℕ) × IsSpacedQubit bs pair.0 more × IsSpacedQubit more pair.1 rest × (pair.0 ≢ pair.1)

-- the pairs of qubits that words mean
abbrev pub paired_words : List (List ℕ) → Result (List (ℕ × ℕ)) Refusal
paired_words ws = each qubit_of ws >>= pairs_of

-- words, each after a space
abbrev pub spaced_words : List (List ℕ) → List ℕ
spaced_words ws = spaced (λ w. w) ws

-- the bytes are these words, which are numbers, each after a space, and the rest
abbrev pub AreNumbers : List ℕ → List (List ℕ) → List ℕ → Type 0
AreNumbers bs ws rest = (bs ≡ spaced_words ws ++ rest) × (list_all is_number ws ≡ true)

-- the bytes are numbers that mean these targets, whatever follows them, and the rest
abbrev pub AreSpacedTargets : {X : Type 0} → (List (List ℕ) → Result (List X) Refusal) → List ℕ → List X → List ℕ → Type 0
AreSpacedTargets meaning bs xs rest = (ws : List (List ℕ)) × AreNumbers bs ws rest × ((more : List (List ℕ)) → meaning (ws ++ more) ≡ follows xs (meaning more))

-- the bytes are the end of a line, and these lines follow it
abbrev pub EndsLine : List ℕ → Option (List ℕ) → Type 0
EndsLine bs None = bs ≡ []
EndsLine bs (Some after) = bs ≡ 10 ∷ after

-- the call gave the targets up to the end of the line and the lines after it, or said nothing, or failed for lack of memory
abbrev pub ReadsTargets : {X : Type 0} → (List (List ℕ) → Result (List X) Refusal) → List ℕ → Result (Option (List X × Option (Bor (List ℕ)))) Refusal → Type 0
ReadsTargets meaning bs (Ok None) = Unit {0}
ReadsTargets meaning bs (Ok (Some found)) = (rest : List ℕ) × AreSpacedTargets meaning bs found.0 rest × EndsLine rest (option_copied found.1)
ReadsTargets meaning bs (Err r) = r ≡ OutOfMemory

-- the shape of a name with these words after it
abbrev pub plain_shape : List ℕ → List (List ℕ) → Shape
plain_shape name ws = record { name = name; tag = []; arguments = []; targets = spaced_words ws; opens = false }

-- the bytes are numbers to which the instruction does this, whatever its name, up to the end of the line, and these lines follow it
abbrev pub BeginsWithKind : Instruction → List ℕ → Kind → Option (List ℕ) → Type 0
BeginsWithKind i bs k after =
    (ws : List (List ℕ)) × (rest : List ℕ) × AreNumbers bs ws rest × EndsLine rest after × ((name : List ℕ) → kind_of i (plain_shape name ws) ≡ Ok k)

-- the call gave what the instruction does and the lines after it, or said nothing, or failed for lack of memory
abbrev pub ReadsKind : Instruction → List ℕ → Result (Option (Kind × Option (Bor (List ℕ)))) Refusal → Type 0
ReadsKind i bs (Ok None) = Unit {0}
ReadsKind i bs (Ok (Some found)) = BeginsWithKind i bs found.0 (option_copied found.1)
ReadsKind i bs (Err r) = r ≡ OutOfMemory

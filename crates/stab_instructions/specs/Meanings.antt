-- Meanings: what the content of a line means, or why it is refused.
-- Source: Stim's circuit file format. Which refusal comes first is this project's own.
use Rattle.std.specs.Prelude.{ℕ, Bool, true, false, ◌&&◌, ◌==◌, List, [], ◌∷◌, length, if◌then◌else◌, Option, Some, None, Result, Ok, Err}
use Rattle.stab_io.specs.declared.refusal.Refusal.{Refusal}
use Rattle.stab_io.specs.declared.refusal.Refusal.TheVariants.{UnsupportedName, BadArguments, BadTarget, BadPairing, BadBlock, QubitOutOfRange, ObservableOutOfRange, BadLine}
use Rattle.stab_instructions.specs.declared.name.Instruction.{Instruction}
use Rattle.stab_instructions.specs.declared.name.Instruction.TheVariants as instruction
use Rattle.stab_instructions.specs.declared.name.Name.{Name}
use Rattle.stab_instructions.specs.declared.name.Name.TheVariants as name
use Rattle.stab_instructions.specs.declared.operation.Kind.{Kind}
use Rattle.stab_instructions.specs.declared.operation.Kind.TheVariants as kind
use Rattle.stab_instructions.specs.declared.operation.Line.{Line}
use Rattle.stab_instructions.specs.declared.operation.Line.TheVariants as line
use Rattle.stab_instructions.specs.Results.{◌>>=◌, each}
use Rattle.stab_instructions.specs.Lines.{Shape, shape_of, starts_with_byte}
use Rattle.stab_instructions.specs.Words.{words, is_blank, arguments_of}
use Rattle.stab_instructions.specs.Names.{name_of}
use Rattle.stab_instructions.specs.Controls.{controlled_of}
use Rattle.stab_instructions.specs.Products.{product_of}
use Rattle.stab_instructions.specs.Targets.{qubit_of, measure_target_of, lookback_of, count_of, pairs_of, coordinate_of, number_of, observable_of}

-- refusal 2 if there are arguments
abbrev pub without_arguments : {A : Type 0} → Shape → Result A Refusal → Result A Refusal
without_arguments s given = if is_blank s.arguments then given else Err BadArguments

-- refusal 3 if there are targets
abbrev pub without_targets : {A : Type 0} → Shape → Result A Refusal → Result A Refusal
without_targets s given = if is_blank s.targets then given else Err BadTarget

-- refusal 5 if a brace opens a block
abbrev pub without_open : {A : Type 0} → Shape → Result A Refusal → Result A Refusal
without_open s given = if s.opens then Err BadBlock else given

-- the targets of an instruction without arguments
abbrev pub targets_alone : {X : Type 0} → (List ℕ → Result X Refusal) → Shape → Result (List X) Refusal
targets_alone target s = without_arguments s (each target (words s.targets))

-- the coordinates among the arguments
abbrev pub coordinates_of : Shape → Result (List (List ℕ)) Refusal
coordinates_of s = each coordinate_of (arguments_of s.arguments)

-- what OBSERVABLE_INCLUDE does; its number's range is judged last
unfoldable pub observable_include_of : Shape → Result Kind Refusal
observable_include_of s = do
  digits ← number_of (arguments_of s.arguments)
  ks ← each lookback_of (words s.targets)
  j ← without_open s (observable_of digits)
  Ok (kind.ObservableInclude j ks)

-- what an instruction does, by its arguments and then its targets
unfoldable pub kind_of : Instruction → Shape → Result Kind Refusal
kind_of (instruction.Gate g) s = targets_alone qubit_of s >>= λ qubits. Ok (kind.Gate g qubits)
kind_of (instruction.Controlled axis) s = without_arguments s (controlled_of (words s.targets)) >>= λ pairs. Ok (kind.Controlled axis pairs)
kind_of instruction.Swap s = targets_alone qubit_of s >>= λ qubits. pairs_of qubits >>= λ pairs. Ok (kind.Swap pairs)
kind_of (instruction.Measure m) s = targets_alone measure_target_of s >>= λ targets. Ok (kind.Measure m targets)
kind_of (instruction.Reset axis) s = targets_alone qubit_of s >>= λ qubits. Ok (kind.Reset axis qubits)
kind_of instruction.MeasureProducts s = targets_alone product_of s >>= λ products. Ok (kind.MeasureProducts products)
kind_of instruction.Detector s = coordinates_of s >>= λ coordinates. each lookback_of (words s.targets) >>= λ ks. Ok (kind.Detector (coordinates, ks))
kind_of instruction.ObservableInclude s = observable_include_of s
kind_of instruction.Tick s = without_arguments s (without_targets s (Ok kind.Tick))
kind_of instruction.QubitCoords s = coordinates_of s >>= λ coordinates. each qubit_of (words s.targets) >>= λ qubits. Ok (kind.QubitCoords (coordinates, qubits))
kind_of instruction.ShiftCoords s = coordinates_of s >>= λ coordinates. without_targets s (Ok (kind.ShiftCoords coordinates))

-- the count, if there is exactly one
abbrev pub only_count : List (Option ℕ) → Option ℕ
only_count (count ∷ []) = count
only_count counts = None

-- a block's opening, if there is a count and a brace
abbrev pub opening_of : Shape → Option ℕ → Result Line Refusal
opening_of s (Some count) = if s.opens then Ok (line.Open count s.tag) else Err BadBlock
opening_of s None = Err BadBlock

-- the opening of a block
unfoldable pub block_of : Shape → Result Line Refusal
block_of s = targets_alone count_of s >>= λ counts. opening_of s (only_count counts)

-- what a name, its arguments and its targets mean
unfoldable pub named_line : Shape → Name → Result Line Refusal
named_line s name.Repeat = block_of s
named_line s (name.Instruction i) = kind_of i s >>= λ kind. without_open s (Ok (line.Operation (record { kind = kind; tag = s.tag })))

-- what a shape means
abbrev pub shape_meaning : Shape → Result Line Refusal
shape_meaning s = name_of s.name >>= named_line s

-- whether the content closes a block
abbrev pub is_close : List ℕ → Bool
is_close content = (length content == 1) && starts_with_byte content 125

-- what the content of a line means
unfoldable pub meaning_of : List ℕ → Result Line Refusal
meaning_of content =
    if length content == 0 then Ok line.Blank
    else if is_close content then Ok line.Close
    else shape_of content >>= shape_meaning

-- whether a line can be refused like this, whatever is around it: 1 to 7 and 11
abbrev pub is_of_line : Refusal → Bool
is_of_line UnsupportedName = true
is_of_line BadArguments = true
is_of_line BadTarget = true
is_of_line BadPairing = true
is_of_line BadBlock = true
is_of_line QubitOutOfRange = true
is_of_line ObservableOutOfRange = true
is_of_line BadLine = true
is_of_line r = false

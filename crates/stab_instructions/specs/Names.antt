-- Names: what each name stands for, in capitals or not. Of several names for one thing the first is printed.
-- Source: Stim's gate names, those of noise and of gates made of these left out (docs/use/circuit-text.md).
use Rattle.std.specs.Prelude.{ℕ, true, false, List, [], ◌∷◌, Option, Some, None, Result, Ok, Err, codes, if◌then◌else◌}
use Rattle.std.specs.Str.{str_eq_ignore_ascii_case}
use Rattle.stab_instructions.specs.Results.{◌>>=◌}
use Rattle.stab_io.specs.declared.refusal.Refusal.{Refusal}
use Rattle.stab_io.specs.declared.refusal.Refusal.TheVariants.{UnsupportedName}
use Rattle.stab_gates.specs.declared.gate.Gate.{Gate}
use Rattle.stab_gates.specs.declared.gate.Gate.TheVariants as one
use Rattle.stab_instructions.specs.declared.axis.Axis.{Axis}
use Rattle.stab_instructions.specs.declared.axis.Axis.TheVariants as axis
use Rattle.stab_instructions.specs.declared.operation.Measurement.{Measurement}
use Rattle.stab_instructions.specs.declared.name.Instruction.{Instruction}
use Rattle.stab_instructions.specs.declared.name.Instruction.TheVariants as instruction
use Rattle.stab_instructions.specs.declared.name.Name.{Name}
use Rattle.stab_instructions.specs.declared.name.Name.TheVariants as name

-- the first name of a gate, which is printed
abbrev pub gate_name : Gate → List ℕ
gate_name one.I = codes "I"
gate_name one.X = codes "X"
gate_name one.Y = codes "Y"
gate_name one.Z = codes "Z"
gate_name one.H = codes "H"
gate_name one.S = codes "S"
gate_name one.SDag = codes "S_DAG"
gate_name one.CXyz = codes "C_XYZ"
gate_name one.CZyx = codes "C_ZYX"
gate_name one.SqrtX = codes "SQRT_X"
gate_name one.SqrtXDag = codes "SQRT_X_DAG"
gate_name one.SqrtY = codes "SQRT_Y"
gate_name one.SqrtYDag = codes "SQRT_Y_DAG"

-- that of X, Y or Z under a control
abbrev pub controlled_name : Axis → List ℕ
controlled_name axis.X = codes "CX"
controlled_name axis.Y = codes "CY"
controlled_name axis.Z = codes "CZ"

-- that of a measurement
abbrev pub measurement_name : Measurement → List ℕ
measurement_name m = if m.resets then measured_and_reset m.axis else measured m.axis
  where
    measured : Axis → List ℕ
    measured axis.X = codes "MX"
    measured axis.Y = codes "MY"
    measured axis.Z = codes "M"

    measured_and_reset : Axis → List ℕ
    measured_and_reset axis.X = codes "MRX"
    measured_and_reset axis.Y = codes "MRY"
    measured_and_reset axis.Z = codes "MR"

-- that of a reset
abbrev pub reset_name : Axis → List ℕ
reset_name axis.X = codes "RX"
reset_name axis.Y = codes "RY"
reset_name axis.Z = codes "R"

-- that of an instruction
abbrev pub instruction_name : Instruction → List ℕ
instruction_name (instruction.Gate g) = gate_name g
instruction_name (instruction.Controlled axis) = controlled_name axis
instruction_name instruction.Swap = codes "SWAP"
instruction_name (instruction.Measure m) = measurement_name m
instruction_name (instruction.Reset axis) = reset_name axis
instruction_name instruction.MeasureProducts = codes "MPP"
instruction_name instruction.Detector = codes "DETECTOR"
instruction_name instruction.ObservableInclude = codes "OBSERVABLE_INCLUDE"
instruction_name instruction.Tick = codes "TICK"
instruction_name instruction.QubitCoords = codes "QUBIT_COORDS"
instruction_name instruction.ShiftCoords = codes "SHIFT_COORDS"

-- a first name, with what it stands for
abbrev pub first : {A : Type 0} → (A → List ℕ) → A → List ℕ × A
first name x = (name x, x)

-- what a text stands for in a table of names
abbrev pub found : {A : Type 0} → List (List ℕ × A) → List ℕ → Option A
found [] text = None
found (row ∷ rows) text = if str_eq_ignore_ascii_case text row.0 then Some row.1 else found rows text

-- the gates on one qubit
abbrev pub gate_names : List (List ℕ × Gate)
gate_names =
    first gate_name one.I
    ∷ first gate_name one.X
    ∷ first gate_name one.Y
    ∷ first gate_name one.Z
    ∷ first gate_name one.H
    ∷ (codes "H_XZ", one.H)
    ∷ first gate_name one.S
    ∷ (codes "SQRT_Z", one.S)
    ∷ first gate_name one.SDag
    ∷ (codes "SQRT_Z_DAG", one.SDag)
    ∷ first gate_name one.CXyz
    ∷ first gate_name one.CZyx
    ∷ first gate_name one.SqrtX
    ∷ first gate_name one.SqrtXDag
    ∷ first gate_name one.SqrtY
    ∷ first gate_name one.SqrtYDag
    ∷ []

-- the gates X, Y and Z under a control
abbrev pub controlled_names : List (List ℕ × Axis)
controlled_names =
    first controlled_name axis.X
    ∷ (codes "CNOT", axis.X)
    ∷ (codes "ZCX", axis.X)
    ∷ first controlled_name axis.Y
    ∷ (codes "ZCY", axis.Y)
    ∷ first controlled_name axis.Z
    ∷ (codes "ZCZ", axis.Z)
    ∷ []

-- a measurement of a letter
abbrev pub measures : Axis → Measurement
measures axis = record { axis = axis; resets = false }

-- a measurement of a letter that resets
abbrev pub measures_and_resets : Axis → Measurement
measures_and_resets axis = record { axis = axis; resets = true }

-- the measurements of one qubit
abbrev pub measurement_names : List (List ℕ × Measurement)
measurement_names =
    first measurement_name (measures axis.Z)
    ∷ (codes "MZ", measures axis.Z)
    ∷ first measurement_name (measures axis.X)
    ∷ first measurement_name (measures axis.Y)
    ∷ first measurement_name (measures_and_resets axis.Z)
    ∷ (codes "MRZ", measures_and_resets axis.Z)
    ∷ first measurement_name (measures_and_resets axis.X)
    ∷ first measurement_name (measures_and_resets axis.Y)
    ∷ []

-- all other instructions
abbrev pub other_names : List (List ℕ × Instruction)
other_names =
    first instruction_name instruction.Swap
    ∷ first instruction_name (instruction.Reset axis.Z)
    ∷ (codes "RZ", instruction.Reset axis.Z)
    ∷ first instruction_name (instruction.Reset axis.X)
    ∷ first instruction_name (instruction.Reset axis.Y)
    ∷ first instruction_name instruction.MeasureProducts
    ∷ first instruction_name instruction.Detector
    ∷ first instruction_name instruction.ObservableInclude
    ∷ first instruction_name instruction.Tick
    ∷ first instruction_name instruction.QubitCoords
    ∷ first instruction_name instruction.ShiftCoords
    ∷ []

-- the gate of this name
unfoldable pub gate_named : List ℕ → Option Gate
gate_named text = found gate_names text

-- the gate of this name that is controlled
unfoldable pub controlled_named : List ℕ → Option Axis
controlled_named text = found controlled_names text

-- the measurement of this name
unfoldable pub measurement_named : List ℕ → Option Measurement
measurement_named text = found measurement_names text

-- what other instruction has this name
unfoldable pub other_named : List ℕ → Option Instruction
other_named text = found other_names text

-- the first that there is, or refusal 1
abbrev pub first_named : Option Gate → Option Axis → Option Measurement → Option Instruction → Result Instruction Refusal
first_named (Some gate) axis measurement other = Ok (instruction.Gate gate)
first_named None (Some axis) measurement other = Ok (instruction.Controlled axis)
first_named None None (Some measurement) other = Ok (instruction.Measure measurement)
first_named None None None (Some x) = Ok x
first_named None None None None = Err UnsupportedName

-- the instruction of this name
unfoldable pub instruction_named : List ℕ → Result Instruction Refusal
instruction_named text = first_named (gate_named text) (controlled_named text) (measurement_named text) (other_named text)

-- what a name stands for: an instruction, or a block
unfoldable pub name_of : List ℕ → Result Name Refusal
name_of text = if str_eq_ignore_ascii_case text (codes "REPEAT") then Ok name.Repeat else (instruction_named text >>= λ i. Ok (name.Instruction i))

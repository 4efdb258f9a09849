-- Prints: the one text of an instruction, and of the opening of a block.
-- Source: Stim's circuit file format. Which of several texts with one meaning is printed is this project's own.
use Rattle.std.specs.Prelude.{ℕ, Bool, true, false, List, [], ◌∷◌, ◌++◌, codes}
use Rattle.std.specs.Fmt.{decimal}
use Rattle.stab_instructions.specs.declared.axis.Axis.{Axis}
use Rattle.stab_instructions.specs.declared.axis.Axis.TheVariants as axis
use Rattle.stab_instructions.specs.declared.control.ControlledPair.{ControlledPair}
use Rattle.stab_instructions.specs.declared.control.ControlledPair.TheVariants as pair
use Rattle.stab_instructions.specs.declared.product.Factor.{Factor}
use Rattle.stab_instructions.specs.declared.range.MeasureTarget.{MeasureTarget}
use Rattle.stab_instructions.specs.declared.name.Instruction.TheVariants as instruction
use Rattle.stab_instructions.specs.declared.operation.Kind.{Kind}
use Rattle.stab_instructions.specs.declared.operation.Kind.TheVariants as kind
use Rattle.stab_instructions.specs.declared.operation.Operation.{Operation}
use Rattle.stab_instructions.specs.Names.{gate_name, controlled_name, measurement_name, reset_name, instruction_name}

-- the name of what is done
abbrev pub kind_name : Kind → List ℕ
kind_name (kind.Gate g qubits) = gate_name g
kind_name (kind.Controlled axis pairs) = controlled_name axis
kind_name (kind.Swap pairs) = instruction_name instruction.Swap
kind_name (kind.Measure m targets) = measurement_name m
kind_name (kind.Reset axis qubits) = reset_name axis
kind_name (kind.MeasureProducts products) = instruction_name instruction.MeasureProducts
kind_name (kind.Detector located) = instruction_name instruction.Detector
kind_name (kind.ObservableInclude j ks) = instruction_name instruction.ObservableInclude
kind_name kind.Tick = instruction_name instruction.Tick
kind_name (kind.QubitCoords located) = instruction_name instruction.QubitCoords
kind_name (kind.ShiftCoords coordinates) = instruction_name instruction.ShiftCoords

-- a tag in its brackets, if there is one
abbrev pub tag_text : List ℕ → List ℕ
tag_text [] = []
tag_text (b ∷ bs) = codes "[" ++ ((b ∷ bs) ++ codes "]")

-- the texts, each after a separator
abbrev pub each_after : {A : Type 0} → List ℕ → (A → List ℕ) → List A → List ℕ
each_after separator text [] = []
each_after separator text (x ∷ xs) = separator ++ (text x ++ each_after separator text xs)

-- arguments in their brackets, if there are any, joined by a comma and a space
abbrev pub arguments_text : List (List ℕ) → List ℕ
arguments_text [] = []
arguments_text (a ∷ more) = codes "(" ++ (a ++ (each_after (codes ", ") (λ b. b) more ++ codes ")"))

-- the arguments of an instruction
abbrev pub kind_arguments : Kind → List (List ℕ)
kind_arguments (kind.Detector located) = located.0
kind_arguments (kind.ObservableInclude j ks) = decimal j ∷ []
kind_arguments (kind.QubitCoords located) = located.0
kind_arguments (kind.ShiftCoords coordinates) = coordinates
kind_arguments (kind.Gate g qubits) = []
kind_arguments (kind.Controlled axis pairs) = []
kind_arguments (kind.Swap pairs) = []
kind_arguments (kind.Measure m targets) = []
kind_arguments (kind.Reset axis qubits) = []
kind_arguments (kind.MeasureProducts products) = []
kind_arguments kind.Tick = []

-- two qubits
abbrev pub pair_text : ℕ × ℕ → List ℕ
pair_text pair = decimal pair.0 ++ (codes " " ++ decimal pair.1)

-- the ! of an inverted target
abbrev pub mark_text : Bool → List ℕ
mark_text true = codes "!"
mark_text false = []

-- a qubit, perhaps with ! before it
abbrev pub target_text : MeasureTarget → List ℕ
target_text t = mark_text t.inverted ++ decimal t.qubit

-- a record
abbrev pub lookback_text : ℕ → List ℕ
lookback_text k = codes "rec[-" ++ (decimal k ++ codes "]")

-- a control, and the qubit that it acts on
abbrev pub controlled_text : ControlledPair → List ℕ
controlled_text (pair.Qubits p) = pair_text p
controlled_text (pair.Record q k) = lookback_text k ++ (codes " " ++ decimal q)

-- a letter, as a capital
abbrev pub axis_text : Axis → List ℕ
axis_text axis.X = codes "X"
axis_text axis.Y = codes "Y"
axis_text axis.Z = codes "Z"

-- a letter on a qubit, perhaps with ! before it
abbrev pub factor_text : Factor → List ℕ
factor_text f = mark_text f.inverted ++ (axis_text f.letter ++ decimal f.qubit)

-- factors, joined by *
abbrev pub product_text : List Factor → List ℕ
product_text [] = []
product_text (f ∷ more) = factor_text f ++ each_after (codes "*") factor_text more

-- the texts, each after a space
abbrev pub spaced : {A : Type 0} → (A → List ℕ) → List A → List ℕ
spaced text xs = each_after (codes " ") text xs

-- the targets of an instruction
abbrev pub targets_text : Kind → List ℕ
targets_text (kind.Gate g qubits) = spaced decimal qubits
targets_text (kind.Controlled axis pairs) = spaced controlled_text pairs
targets_text (kind.Swap pairs) = spaced pair_text pairs
targets_text (kind.Measure m targets) = spaced target_text targets
targets_text (kind.Reset axis qubits) = spaced decimal qubits
targets_text (kind.MeasureProducts products) = spaced product_text products
targets_text (kind.Detector located) = spaced lookback_text located.1
targets_text (kind.ObservableInclude j ks) = spaced lookback_text ks
targets_text kind.Tick = []
targets_text (kind.QubitCoords located) = spaced decimal located.1
targets_text (kind.ShiftCoords coordinates) = []

-- a name and its tag
abbrev pub head_text : List ℕ → List ℕ → List ℕ
head_text name tag = name ++ tag_text tag

-- one instruction
abbrev pub operation_text : Operation → List ℕ
operation_text op = head_text (kind_name op.kind) op.tag ++ (arguments_text (kind_arguments op.kind) ++ targets_text op.kind)

-- a text after a space, and nothing if there is none
abbrev pub after_space : List ℕ → List ℕ
after_space [] = []
after_space (b ∷ bs) = codes " " ++ (b ∷ bs)

-- the coordinates of a detector after a space, as ` (1, 3, 2)`: nothing if it has none, or for any other instruction
abbrev pub coordinates_text : Kind → List ℕ
coordinates_text (kind.Detector located) = after_space (arguments_text located.0)
coordinates_text (kind.Gate g qubits) = []
coordinates_text (kind.Controlled axis pairs) = []
coordinates_text (kind.Swap pairs) = []
coordinates_text (kind.Measure m targets) = []
coordinates_text (kind.Reset axis qubits) = []
coordinates_text (kind.MeasureProducts products) = []
coordinates_text (kind.ObservableInclude j ks) = []
coordinates_text kind.Tick = []
coordinates_text (kind.QubitCoords located) = []
coordinates_text (kind.ShiftCoords coordinates) = []

-- the opening of a block
abbrev pub open_text : ℕ → List ℕ → List ℕ
open_text count tag = head_text (codes "REPEAT") tag ++ (codes " " ++ (decimal count ++ codes " {"))

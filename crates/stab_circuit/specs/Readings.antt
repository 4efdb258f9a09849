-- Readings: how the calls that read a text answer it.
-- Source: this project's own.
use Rattle.std.specs.Prelude.{◌≡◌, ◌<◌, Bool, true, false, IsTrue, Some, None, Result, Ok, Err, List, ℕ, ◌⊎◌}
use Rattle.stab_io.specs.declared.refusal.Refusal.{Refusal}
use Rattle.stab_io.specs.declared.refusal.Refusal.TheVariants.{LookbackTooFar, TooManySteps, TooDeep, BadLine, TooLong, ReadFault, OutOfMemory}
use Rattle.stab_io.specs.declared.refusal.Fault.{Fault}
use Rattle.stab_io.specs.Refusals.{whole}
use Rattle.stab_io.specs.Devices.{InputView}
use Rattle.stab_instructions.specs.Meanings.{is_of_line}
use Rattle.stab_items.specs.Items.{Items, OneItem}
use Rattle.stab_circuit.specs.Inputs.{GaveText, RefusesText}
use Rattle.stab_items.specs.Circuits.{text_fault, item_fault, StandsFor, StandsForOne}
use Rattle.stab_items.specs.Steps.{check_of}
use Rattle.stab_items.specs.Views.{circuit_items}

-- the text stands for the items, and nothing refuses these as a whole circuit
abbrev pub IsCircuit : List ℕ → Items → Type 0
IsCircuit text items = StandsFor text items × (check_of items ≡ None)

-- the text stands for items that are refused as a whole circuit
abbrev pub IsRefused : List ℕ → Fault → Type 0
IsRefused text fault = (items : Items) × (refusal : Refusal) × StandsFor text items × (check_of items ≡ Some refusal) × (fault ≡ whole refusal)

-- the fault is that of the text's lines, or of the circuit that it stands for
abbrev pub IsFaultOf : List ℕ → Fault → Type 0
IsFaultOf text fault = (text_fault text ≡ Some fault) ⊎ IsRefused text fault

-- the call gave the circuit that the text stands for, or the text's fault, or the answer is 20
abbrev pub ReadsCircuit : List ℕ → Result (List OneItem) Fault → Type 0
ReadsCircuit text (Ok circuit) = IsCircuit text (circuit_items circuit)
ReadsCircuit text (Err fault) = (fault ≡ whole OutOfMemory) ⊎ IsFaultOf text fault

-- the call read the circuit of the input's text, or refused the text
abbrev pub ReadsInput : InputView → InputView → Result (List OneItem) Fault → Type 0
ReadsInput old new (Ok circuit) = (text : List ℕ) × GaveText old new text × IsCircuit text (circuit_items circuit)
ReadsInput old new (Err fault) = RefusesText IsFaultOf old new fault

-- the call gave the one item that the text stands for, or the text's fault, or the answer is 20
abbrev pub ReadsItem : List ℕ → Result OneItem Fault → Type 0
ReadsItem text (Ok item) = StandsForOne text item
ReadsItem text (Err fault) = (fault ≡ whole OutOfMemory) ⊎ (item_fault text ≡ Some fault)

-- whether a refusal has a line: those of lines, and that of blocks that nest too deep
abbrev pub has_line : Refusal → Bool
has_line TooDeep = true
has_line r = is_of_line r

-- whether a whole circuit text can be refused like this: 8, 9, 14, 15 and 20
abbrev pub is_of_circuit : Refusal → Bool
is_of_circuit LookbackTooFar = true
is_of_circuit TooManySteps = true
is_of_circuit TooLong = true
is_of_circuit ReadFault = true
is_of_circuit OutOfMemory = true
is_of_circuit r = false

-- whether one item's whole text can be refused like this: 11, 14 and 20
abbrev pub is_of_item : Refusal → Bool
is_of_item BadLine = true
is_of_item TooLong = true
is_of_item OutOfMemory = true
is_of_item r = false

-- the fault has a line, as a refused line has, or is one of those that have none
abbrev pub HasLine : (Refusal → Bool) → Fault → Type 0
HasLine is_whole fault = (IsTrue (has_line fault.refusal) × (0 < fault.line)) ⊎ (IsTrue (is_whole fault.refusal) × (fault.line ≡ 0))

-- Laws: what holds between all texts and all items.
-- Source: this project's own.
use Rattle.std.specs.Prelude.{◌≡◌, ◌≤◌, ◌⊎◌, ℕ, List, All, length, Some, None, Ok}
use Rattle.std.specs.List.{slice_split}
use Rattle.stab_io.specs.declared.refusal.Fault.{Fault}
use Rattle.stab_instructions.specs.Lines.{is_byte}
use Rattle.stab_items.specs.declared.edit.Edit.{Edit}
use Rattle.stab_items.specs.Items.{Items, OneItem, done, before, listed, depth}
use Rattle.stab_items.specs.Circuits.{most_bytes, text_fault, item_fault, StandsFor, StandsForOne, AreLinesOf}
use Rattle.stab_items.specs.Prints.{printed}
use Rattle.stab_items.specs.Steps.{unroll, HasDistinctQubits}
use Rattle.stab_circuit.specs.Readings.{IsCircuit, IsFaultOf}
use Rattle.stab_items.specs.StepPaths.{paths_of}
use Rattle.stab_items.specs.Paths.{Path}
use Rattle.stab_items.specs.Edits.{LeavesTheRest, edit_path, edited, taken, put_item}
use Rattle.stab_items.specs.Splits.{AreAlike, split}
use Rattle.stab_items.specs.Rounds.{HaveRounds, ChangesEachRound}

-- the text stands for the items, and for no others
abbrev pub StandsForOnly : List ℕ → Items → Type 0
StandsForOnly text items = StandsFor text items × ((other : Items) → StandsFor text other → other ≡ items)

-- a text without a faulty line stands for one list of items
abbrev pub TextsHaveOneMeaning : Type 0
TextsHaveOneMeaning = (text : List ℕ) → text_fault text ≡ None → (items : Items) × StandsForOnly text items

-- the lines of a text that stands for items are such lines
abbrev pub TextsAreLines : Type 0
TextsAreLines = (text : List ℕ) (items : Items) → StandsFor text items → AreLinesOf (slice_split (is_byte 10) text) items

-- what is printed of the items stands for these and no others, if it is no longer than a text may be
abbrev pub IsReadBack : Items → Type 0
IsReadBack items = length (printed items) ≤ most_bytes → StandsForOnly (printed items) items

-- so it is with the items of any such lines
abbrev pub PrintedItemsAreReadBack : Type 0
PrintedItemsAreReadBack = (lines : List (List ℕ)) (items : Items) → AreLinesOf lines items → IsReadBack items

-- some lines stand for the items
abbrev pub AreOfLines : Items → Type 0
AreOfLines items = (lines : List (List ℕ)) × AreLinesOf lines items

-- in their steps the two qubits of each pair differ, and so do those of each product
abbrev pub LinesKeepQubitsDistinct : Type 0
LinesKeepQubitsDistinct = (lines : List (List ℕ)) (items : Items) → AreLinesOf lines items → All HasDistinctQubits (unroll items)

-- the text of one item stands for the item, and for no other
abbrev pub StandsForOneOnly : List ℕ → OneItem → Type 0
StandsForOneOnly text item = StandsForOne text item × ((other : OneItem) → StandsForOne text other → other ≡ item)

-- one item's text without a fault stands for one item
abbrev pub ItemTextsHaveOneMeaning : Type 0
ItemTextsHaveOneMeaning = (text : List ℕ) → item_fault text ≡ None → (item : OneItem) × StandsForOneOnly text item

-- the lines of one item's text stand for the item
abbrev pub ItemTextsAreLines : Type 0
ItemTextsAreLines = (text : List ℕ) (item : OneItem) → StandsForOne text item → AreLinesOf (slice_split (is_byte 10) text) (before item done)

-- every text is that of a circuit or has a fault
abbrev pub EachTextHasAMeaning : Type 0
EachTextHasAMeaning = (text : List ℕ) → ((items : Items) × IsCircuit text items) ⊎ ((fault : Fault) × IsFaultOf text fault)

-- a text is that of at most one circuit
abbrev pub TextsAreOfOneCircuit : Type 0
TextsAreOfOneCircuit = (text : List ℕ) (items other : Items) → IsCircuit text items → IsCircuit text other → other ≡ items

-- a text has at most one fault
abbrev pub TextsHaveOneFault : Type 0
TextsHaveOneFault = (text : List ℕ) (fault other : Fault) → IsFaultOf text fault → IsFaultOf text other → other ≡ fault

-- the text of a circuit has no fault
abbrev pub CircuitsHaveNoFault : Type 0
CircuitsHaveNoFault = (text : List ℕ) (items : Items) (fault : Fault) → IsCircuit text items → IsFaultOf text fault → ⊥

-- each edit leaves the rest of the steps
abbrev pub EditsLeaveTheRest : Type 0
EditsLeaveTheRest = (edit : Edit) (old new : List OneItem) → edited edit old ≡ Ok new → LeavesTheRest edit old new

-- each edit in blocks that have a round changes each of them so
abbrev pub EditsChangeEachRound : Type 0
EditsChangeEachRound = (edit : Edit) (old new : List OneItem) → edited edit old ≡ Ok new → HaveRounds (edit_path edit).blocks old → ChangesEachRound edit old new

-- a round that is split off leaves items that are like those before
abbrev pub SplitsLeaveTheSteps : Type 0
SplitsLeaveTheSteps = (path : Path) (round : ℕ) (old new : List OneItem) → split path round old ≡ Ok new → AreAlike (listed old) (listed new)

-- the item that the edit puts in, if there is one, is of lines
abbrev pub PutsLines : Edit → Type 0
PutsLines edit = (item : OneItem) → put_item edit ≡ Some item → AreOfLines (before item done)

-- items of lines are still items of lines after each edit that puts in such an item and nests no block too deep
abbrev pub EditedItemsAreOfLines : Type 0
EditedItemsAreOfLines = (edit : Edit) (old new : List OneItem) → AreOfLines (listed old) → PutsLines edit → edited edit old ≡ Ok new → depth (listed new) ≤ 16 → AreOfLines (listed new)

-- items of lines stay items of lines when a round is split off
abbrev pub SplitItemsAreOfLines : Type 0
SplitItemsAreOfLines = (path : Path) (round : ℕ) (old new : List OneItem) → AreOfLines (listed old) → split path round old ≡ Ok new → AreOfLines (listed new)

-- an item that is taken out of items of lines is of lines
abbrev pub TakenItemsAreOfLines : Type 0
TakenItemsAreOfLines = (edit : Edit) (old : List OneItem) (item : OneItem) → AreOfLines (listed old) → taken edit old ≡ Some item → AreOfLines (before item done)

-- each unrolled step has one path
abbrev pub StepsHaveOnePath : Type 0
StepsHaveOnePath = (items : Items) → length (paths_of items) ≡ length (unroll items)

-- Ways: the instructions of a circuit as they are carried out, after which of them a string that was put in is another one, and what it
-- is at each tick.
-- Source: Stim's circuit file format, for TICK. The rest is this project's own.
use Rattle.std.specs.Prelude.{ℕ, zero, suc, ◌+◌, ◌-◌, ◌==◌, min, nat_le, Bool, true, false, List, [], ◌∷◌, ◌++◌, length, drop, if◌then◌else◌}
use Rattle.std.specs.List.{list_any}
use Rattle.stab_gates.specs.declared.letter.Letter.{Letter}
use Rattle.stab_gates.specs.declared.letter.Letter.TheVariants.{I, X, Y, Z}
use Rattle.stab_pauli.specs.Paulis.{string_product}
use Rattle.stab_instructions.specs.declared.operation.Kind.{Kind}
use Rattle.stab_instructions.specs.declared.operation.Kind.TheVariants as kind
use Rattle.stab_items.specs.Items.{Items, done, next, block}
use Rattle.stab_items.specs.Steps.{Step, steps_of, unroll}
use Rattle.stab_frames.specs.Frames.{Frame}
use Rattle.stab_frames.specs.inner.Touches.{acts}
use Rattle.stab_ways.specs.declared.way.PlacedLetter.{PlacedLetter}
use Rattle.stab_ways.specs.declared.way.Turn.{Turn as TurnValue}
use Rattle.stab_ways.specs.PutIn.{frame_begun, way_over}

-- an instruction as it is carried out: whether it is a tick, and its steps
pub record Part : Type 0 where
  pub tick : Bool
  pub steps : List Step

abbrev pub is_tick : Kind → Bool
is_tick kind.Tick = true
is_tick (kind.Gate g qubits) = false
is_tick (kind.Controlled axis pairs) = false
is_tick (kind.Swap pairs) = false
is_tick (kind.Measure m targets) = false
is_tick (kind.Reset axis qubits) = false
is_tick (kind.MeasureProducts products) = false
is_tick (kind.Detector located) = false
is_tick (kind.ObservableInclude j ks) = false
is_tick (kind.QubitCoords located) = false
is_tick (kind.ShiftCoords coordinates) = false

-- the instructions of rounds
abbrev pub part_rounds : ℕ → List Part → List Part
part_rounds zero parts = []
part_rounds (suc n) parts = parts ++ part_rounds n parts

-- of how many rounds of a block the instructions count: if it has no step, of the first alone, as all rounds come after the same steps
abbrev pub rounds_counted : (count steps : ℕ) → ℕ
rounds_counted count steps = if steps == 0 then min count 1 else count

-- the instructions as they are carried out, each by its steps, those of a block as often as it counts
abbrev pub carried_parts : Items → List Part
carried_parts done = []
carried_parts (next op rest) = record { tick = is_tick op.kind; steps = steps_of op.kind } ∷ carried_parts rest
carried_parts (block count tag body rest) = part_rounds (rounds_counted count (length (unroll body))) (carried_parts body) ++ carried_parts rest

-- the rest of an instruction, after k of its steps
abbrev pub rest_of_instruction : ℕ → Part → Part
rest_of_instruction k p = record p { steps = drop k p.steps }

-- what of them comes after k steps: the rest of the one that these end in, and those after it
abbrev pub parts_after : ℕ → List Part → List Part
parts_after k [] = []
parts_after k (p ∷ parts) = if nat_le k (length p.steps) then rest_of_instruction k p ∷ parts else parts_after (k - length p.steps) parts

-- the letters of a string that are not I, with their qubits, from this one on
abbrev pub placed : ℕ → List Letter → List PlacedLetter
placed q [] = []
placed q (I ∷ letters) = placed (q + 1) letters
placed q (X ∷ letters) = record { letter = X; qubit = q } ∷ placed (q + 1) letters
placed q (Y ∷ letters) = record { letter = Y; qubit = q } ∷ placed (q + 1) letters
placed q (Z ∷ letters) = record { letter = Z; qubit = q } ∷ placed (q + 1) letters

-- how many steps there are in front, and the string after them
pub record Turn : Type 0 where
  pub after : ℕ
  pub string : List PlacedLetter

-- two strings differ: their product has a letter
abbrev pub differ : List Letter → List Letter → Bool
differ old new = list_any acts (string_product old new)

-- a string after t steps, if it is another one
abbrev pub changed_string : ℕ → (old new : List Letter) → List Turn
changed_string t old new = if differ old new then record { after = t; string = placed 0 new } ∷ [] else []

-- a string after t steps, if a tick is there
abbrev pub tick_string : (tick : Bool) → ℕ → List Letter → List Turn
tick_string tick t letters = if tick then record { after = t; string = placed 0 letters } ∷ [] else []

-- what is listed at the end of an instruction, after t steps: the string at every tick, or the string if it is another one
abbrev pub listed_string : (every tick : Bool) → ℕ → (old new : List Letter) → List Turn
listed_string every tick t old new = if every then tick_string tick t new else changed_string t old new

-- the same at the end of each instruction, from a frame on; there are t steps before the first
abbrev pub turns : (every : Bool) → ℕ → ℕ → Frame → List Part → List Turn
turns every n t f [] = []
turns every n t f (p ∷ parts) =
    listed_string every p.tick (t + length p.steps) f.letters (way_over n p.steps f).letters ++ turns every n (t + length p.steps) (way_over n p.steps f) parts

-- the same of a string that is put in after k steps of a circuit
abbrev pub string_turns : (every : Bool) → ℕ → ℕ → List Letter → Items → List Turn
string_turns every n k string items = turns every n k (frame_begun k string (unroll items)) (parts_after k (carried_parts items))

-- what a value of the code stands for
abbrev pub turn_shown : TurnValue → Turn
turn_shown t = record { after = t.after; string = t.string.items }

-- Walks: a string on its way over the instructions of a circuit, from the first one on, and what is known of it so far.
use Rattle.std.specs.Prelude.{◌≡◌, ◌≤◌, ◌<◌, ℕ, ◌+◌, ◌-◌, nat_le, Bool, List, [], ◌∷◌, ◌++◌, length, take, map, Option, Some, None, if◌then◌else◌}
use Rattle.stab_gates.specs.declared.letter.Letter.{Letter}
use Rattle.stab_pauli.specs.Paulis.{string_product}
use Rattle.stab_items.specs.Steps.{Step}
use Rattle.stab_run.specs.Points.{joined, all_coins_of}
use Rattle.stab_frames.specs.Propagations.{PropagationState, frame_at, IsPlaced}
use Rattle.stab_instructions.specs.declared.range.MeasureTarget.{MeasureTarget}
use Rattle.stab_tableau.specs.Gates.{letter_at}
use Rattle.stab_frames.specs.Frames.{Frame}
use Rattle.stab_frames.specs.inner.Touches.{acts}
use Rattle.stab_frames.specs.FrameSteps.{frame_over, flips_over}
use Rattle.stab_ways.specs.declared.walk.Walk.{Walk}
use Rattle.stab_ways.specs.PutIn.{by_letters, step_leaves, way_over, way_flips}
use Rattle.stab_ways.specs.Ways.{Part, Turn, listed_string, rest_of_instruction, turn_shown}

-- a frame after steps, with what it has flipped
abbrev pub passed : ℕ → List Step → PropagationState → PropagationState
passed n ys p = record {
  letters = (way_over n ys (frame_at 0 p)).letters;
  flips = joined p.flips (way_flips n ys (frame_at 0 p));
  coin = p.coin + all_coins_of ys;
  number = p.number;
}

-- what resets among steps leave of letters
abbrev pub steps_leave : ℕ → List Step → List Letter → List Letter
steps_leave n [] letters = letters
steps_leave n (x ∷ xs) letters = steps_leave n xs (step_leaves n x letters)

-- what resets leave after steps that a frame goes over is what they leave one by one
pub record EndsTogether (n : ℕ) (ys : List Step) (f : Frame) : Type 0 where
  pub letters : (way_over n ys f).letters ≡ steps_leave n ys (frame_over n by_letters ys 0 f).letters
  pub flips : way_flips n ys f ≡ flips_over n by_letters ys 0 f

-- whether a string has a letter at the qubit of a target
abbrev pub has_letter_at : List Letter → MeasureTarget → Bool
has_letter_at letters t = acts (letter_at letters t.qubit)

-- steps are the first of others, and at least one
abbrev pub IsFront : List Step → List Step → Type 0
IsFront ys xs = (rest : List Step) × (xs ≡ ys ++ rest) × (0 < length ys)

-- whether the string is listed at every tick or where it is another one, how many steps were passed, after how many more it is put in, if it was
-- not yet, the frame so far, and what was listed
pub record WalkState : Type 0 where
  pub every : Bool
  pub steps : ℕ
  pub waits : Option ℕ
  pub frame : PropagationState
  pub turns : List Turn

-- the string is put in
abbrev pub put_in : List Letter → WalkState → WalkState
put_in string w = record w { waits = None; frame = record w.frame { letters = string_product w.frame.letters string } }

-- at the end, if it was not yet
abbrev pub ended : Option ℕ → List Letter → WalkState → WalkState
ended None string w = w
ended (Some k) string w = put_in string w

-- further steps of an instruction are passed, and nothing is reported
abbrev pub past_steps : ℕ → List Step → WalkState → WalkState
past_steps n ys w = record w { steps = w.steps + length ys; frame = passed n ys w.frame }

-- an instruction is passed, and the string is listed if it is to be
abbrev pub reported : ℕ → Part → WalkState → WalkState
reported n p w = record (past_steps n p.steps w) { turns = w.turns ++ listed_string w.every p.tick (w.steps + length p.steps) w.frame.letters (passed n p.steps w.frame).letters }

-- over an instruction with the string under way, or not yet put in
abbrev pub over_part : ℕ → List Letter → Part → Option ℕ → WalkState → WalkState
over_part n string p None w = reported n p w
over_part n string p (Some k) w =
    if nat_le k (length p.steps) then reported n (rest_of_instruction k p) (put_in string (past_steps n (take k p.steps) w))
    else record (past_steps n p.steps w) { waits = Some (k - length p.steps) }

-- over instructions one after another
abbrev pub walked : ℕ → List Letter → List Part → WalkState → WalkState
walked n string [] w = w
walked n string (p ∷ parts) w = walked n string parts (over_part n string p w.waits w)

-- what is known of a walk
abbrev pub walk_shown : Walk → WalkState
walk_shown w = record { every = w.every; steps = w.steps; waits = w.waits; frame = w.propagation; turns = map turn_shown w.turns.items }

-- a walk on n qubits, which no pivot is known for
pub record IsWalkOn (n : ℕ) (w : Walk) : Type 0 where
  pub size : length w.propagation.letters ≡ n
  pub placed : IsPlaced [] w.propagation
  pub coins : w.propagation.coin ≤ w.steps
  pub qubits : w.strings.qubits ≡ n
  pub none : w.strings.strings ≡ []

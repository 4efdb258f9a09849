-- Parts: how the parts of a content are shown.
-- Source: this project's own.
use Rattle.std.specs.Prelude.{◌≡◌, ℕ, Bool, ◌&&◌, List, Result, Ok, Err}
use Rattle.std.specs.List.{list_all}
use Rattle.stab_io.specs.declared.refusal.Refusal.{Refusal}
use Rattle.stab_circuit.specs.declared.line.Shape.{Shape as Parts}
use Rattle.stab_instructions.specs.Results.{◌>>=◌}
use Rattle.stab_instructions.specs.Lines.{Shape}
use Rattle.stab_instructions.specs.Words.{is_some_word, arguments_of}
use Rattle.stab_instructions.specs.Targets.{is_coordinate_byte}

-- the shape that the parts of a content show
abbrev pub shape_shown : Parts → Shape
shape_shown s = record { name = s.name.now; tag = s.tag.now; arguments = s.arguments.now; targets = s.targets.now; opens = s.opens }

-- the call gave what the definition gives, seen by view, or failed as it does
abbrev pub GivesBy : {X Y : Type 0} → (X → Y) → Result X Refusal → Result Y Refusal → Type 0
GivesBy view (Ok x) given = given ≡ Ok (view x)
GivesBy view (Err r) given = given ≡ Err r

-- whether an argument is written as a coordinate is
abbrev pub is_coordinate : List ℕ → Bool
is_coordinate argument = is_some_word argument && list_all is_coordinate_byte argument

-- coordinates that are written in this way, and the records after them, or the refusal of these
abbrev pub after_coordinates : List ℕ → Result (List ℕ) Refusal → Result (List (List ℕ) × List ℕ) Refusal
after_coordinates written given = given >>= λ ks. Ok (arguments_of written, ks)

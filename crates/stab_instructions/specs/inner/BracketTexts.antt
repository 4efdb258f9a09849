-- Bracket texts: how the code keeps what brackets held.
-- Source: this project's own.
use Rattle.std.specs.Prelude.{◌≤◌, ℕ, List, take}
use Rattle.stab_instructions.specs.declared.coordinates.BracketText.{BracketText}
use Rattle.stab_instructions.specs.declared.coordinates.BracketText.TheVariants as written

-- the bytes that are stored
abbrev pub bracket_bytes : BracketText → List ℕ
bracket_bytes (written.Short len bytes) = take len bytes
bracket_bytes (written.Long s) = s.value

-- no more bytes are counted than there is room for
abbrev pub IsBracketText : BracketText → Type 0
IsBracketText (written.Short len bytes) = len ≤ 22
IsBracketText (written.Long s) = Unit {0}

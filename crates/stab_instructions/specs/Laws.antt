-- Laws: what printed lines say.
-- Source: this project's own.
use Rattle.std.specs.Prelude.{◌≡◌, ℕ, false, List, [], ◌++◌, replicate, codes, Ok}
use Rattle.std.specs.List.{list_any}
use Rattle.stab_instructions.specs.declared.operation.Line.{Line}
use Rattle.stab_instructions.specs.declared.operation.Line.TheVariants.{Blank, Close, Open}
use Rattle.stab_instructions.specs.declared.operation.Line.TheVariants as line
use Rattle.stab_instructions.specs.Lines.{is_byte, content_of}
use Rattle.stab_instructions.specs.Meanings.{meaning_of}
use Rattle.stab_instructions.specs.Prints.{open_text, operation_text}

-- a line of a text has no line feed in it
abbrev pub IsLine : List ℕ → Type 0
IsLine line = list_any (is_byte 10) line ≡ false

-- what is printed of a line that means this, without the margin and the line feed
abbrev pub line_printed : Line → List ℕ
line_printed Blank = []
line_printed Close = codes "}"
line_printed (Open count tag) = open_text count tag
line_printed (line.Operation op) = operation_text op

-- the content fits on one line, is what is left of it after any margin of spaces, and means this
pub record Says (content : List ℕ) (meaning : Line) : Type 0 where
  pub one_line : IsLine content
  pub left : (spaces : ℕ) → content_of (replicate spaces 32 ++ content) ≡ content
  pub means : meaning_of content ≡ Ok meaning

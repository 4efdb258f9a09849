-- Known lines: lines that were read, and the instructions that they mean.
-- Source: this project's own.
use Rattle.std.specs.Prelude.{◌≡◌, ℕ, false, List, [], ◌∷◌, ◌++◌, All, Option, Some, None, Ok}
use Rattle.std.specs.List.{slice_split}
use Rattle.stab_instructions.specs.declared.operation.Operation.{Operation}
use Rattle.stab_instructions.specs.declared.operation.Line.{Line}
use Rattle.stab_instructions.specs.declared.operation.Line.TheVariants as line
use Rattle.stab_instructions.specs.Lines.{is_byte, content_of}
use Rattle.stab_instructions.specs.Words.{pieces_after}
use Rattle.stab_instructions.specs.Meanings.{meaning_of}
use Rattle.stab_items.specs.Items.{OneItem, operation}

-- no line ends in it
abbrev pub IsOneLine : List ℕ → Type 0
IsOneLine bytes = All (λ b. is_byte 10 b ≡ false) bytes

-- the text is a line, and then these lines
abbrev pub IsCut : List ℕ → List ℕ → Option (List ℕ) → Type 0
IsCut text first None = text ≡ first
IsCut text first (Some after) = text ≡ first ++ 10 ∷ after

-- the line means this instruction
abbrev pub Means : List ℕ → Operation → Type 0
Means bytes op = meaning_of (content_of bytes) ≡ Ok (line.Operation op)

-- the line means the instruction or the opening of a block, if it is one
abbrev pub IsMeant : Line → List ℕ → Type 0
IsMeant (line.Operation op) bytes = Means bytes op
IsMeant line.Blank bytes = Unit {0}
IsMeant line.Close bytes = Unit {0}
IsMeant (line.Open count tag) bytes = meaning_of (content_of bytes) ≡ Ok (line.Open count tag)

-- the first line means the instruction that is this item, and these lines follow it
abbrev pub BeginsWithItem : List ℕ → OneItem → Option (List ℕ) → Type 0
BeginsWithItem text x after =
    (first : List ℕ) × (op : Operation) × (slice_split (is_byte 10) text ≡ first ∷ pieces_after 10 after) × Means first op × (x ≡ operation op)

-- what is known of a line: it is whole, and means this instruction
pub record IsKnownLine (bytes : List ℕ) (op : Operation) : Type 0 where
  pub whole : IsOneLine bytes
  pub means : Means bytes op

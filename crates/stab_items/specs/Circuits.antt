-- Circuits: which items the lines of a text stand for, and its one fault if there are none.
-- Source: Stim's circuit file format, its lines and blocks. The limits, the numbers of refusals and the text of one item are this
-- project's own.
use Rattle.std.specs.Prelude.{◌≡◌, ℕ, ◌+◌, ◌-◌, Bool, false, nat_lt, ◌==◌, List, [], ◌∷◌, ◌++◌, All, length, map, if◌then◌else◌, Option, Some, None, Result, Ok, Err}
use Rattle.std.specs.List.{slice_split, list_all}
use Rattle.stab_io.specs.declared.refusal.Refusal.{Refusal}
use Rattle.stab_io.specs.declared.refusal.Refusal.TheVariants.{BadBlock, TooDeep, BadLine, TooLong}
use Rattle.stab_io.specs.declared.refusal.Fault.{Fault}
use Rattle.stab_io.specs.Refusals.{whole}
use Rattle.stab_instructions.specs.declared.operation.Operation.{Operation}
use Rattle.stab_instructions.specs.declared.operation.Line.{Line}
use Rattle.stab_instructions.specs.declared.operation.Line.TheVariants.{Blank, Close, Open}
use Rattle.stab_instructions.specs.declared.operation.Line.TheVariants as line
use Rattle.stab_instructions.specs.Lines.{is_byte, content_of}
use Rattle.stab_instructions.specs.Laws.{IsLine}
use Rattle.stab_items.specs.Items.{Items, OneItem, done, next, block, before}
use Rattle.stab_instructions.specs.Meanings.{is_close, meaning_of}

-- what a line means, or why it is refused
abbrev pub Meaning : Type 0
Meaning = Result Line Refusal

-- the contents of the lines of a text
abbrev pub contents : List ℕ → List (List ℕ)
contents text = map content_of (slice_split (is_byte 10) text)

-- what lines mean
abbrev pub line_meanings : List (List ℕ) → List Meaning
line_meanings lines = map meaning_of (map content_of lines)

-- what the lines of a circuit text mean
abbrev pub meanings : List ℕ → List Meaning
meanings text = map meaning_of (contents text)

-- the lines stand for the items: no refused line stands for any, and each block is closed
pub data Joins : List Meaning → Items → Type 0 where
  nothing : Joins [] done
  blank_line : {ms : List Meaning} {xs : Items} → Joins ms xs → Joins (Ok Blank ∷ ms) xs
  operation_line : {op : Operation} {ms : List Meaning} {xs : Items} → Joins ms xs → Joins (Ok (line.Operation op) ∷ ms) (next op xs)
  block_lines : {count : ℕ} {tag : List ℕ} {inner after : List Meaning} {body rest : Items}
      → Joins inner body → Joins after rest → Joins (Ok (Open count tag) ∷ (inner ++ Ok Close ∷ after)) (block count tag body rest)

-- the refusal of a line
abbrev pub at_line : ℕ → Refusal → Fault
at_line n r = record { refusal = r; line = n }

-- the first fault from line n on, if blocks were opened at these lines and not closed, the innermost first
abbrev pub fault_from : ℕ → List ℕ → List Meaning → Option Fault
fault_from n [] [] = None
fault_from n (at ∷ outer) [] = Some (at_line at BadBlock)
fault_from n opened (Err r ∷ ms) = Some (at_line n r)
fault_from n opened (Ok Blank ∷ ms) = fault_from (n + 1) opened ms
fault_from n opened (Ok (line.Operation op) ∷ ms) = fault_from (n + 1) opened ms
fault_from n opened (Ok (Open count tag) ∷ ms) = if nat_lt (length opened) 16 then fault_from (n + 1) (n ∷ opened) ms else Some (at_line n TooDeep)
fault_from n [] (Ok Close ∷ ms) = Some (at_line n BadBlock)
fault_from n (at ∷ outer) (Ok Close ∷ ms) = fault_from (n + 1) outer ms

-- the most bytes of a text
abbrev pub most_bytes : ℕ
most_bytes = 16777216

-- the fault of a text whose lines mean this, if it is within its limit
abbrev pub limited : List ℕ → Option Fault → Option Fault
limited text fault = if nat_lt most_bytes (length text) then Some (whole TooLong) else fault

-- the fault of a circuit text by its lines
abbrev pub text_fault : List ℕ → Option Fault
text_fault text = limited text (fault_from 1 [] (meanings text))

-- the text has no faulty line, and stands for the items
abbrev pub StandsFor : List ℕ → Items → Type 0
StandsFor text items = (text_fault text ≡ None) × Joins (meanings text) items

-- lines, however many, of which none is faulty and which stand for the items
pub record AreLinesOf (lines : List (List ℕ)) (items : Items) : Type 0 where
  pub each : All IsLine lines
  pub faultless : fault_from 1 [] (line_meanings lines) ≡ None
  pub joined : Joins (line_meanings lines) items

-- what a content means after a whole item: only blanks and stray closes are distinguished
abbrev pub meaning_after : List ℕ → Meaning
meaning_after content = if length content == 0 then Ok Blank else if is_close content then Ok Close else Err BadLine

-- how many blocks are open after a line
abbrev pub depth_after : ℕ → Meaning → ℕ
depth_after d (Ok (Open count tag)) = d + 1
depth_after d (Ok Close) = d - 1
depth_after d m = d

-- whether a line makes an item whole
abbrev pub ends_item : ℕ → Meaning → Bool
ends_item d (Ok (line.Operation op)) = d == 0
ends_item d (Ok Close) = d == 1
ends_item d m = false

-- what the lines of one item's text mean, if this many blocks are open
abbrev pub one_item : ℕ → List (List ℕ) → List Meaning
one_item d [] = []
one_item d (c ∷ cs) = meaning_of c ∷ (if ends_item d (meaning_of c) then map meaning_after cs else one_item (depth_after d (meaning_of c)) cs)

-- whether a line is blank
abbrev pub is_empty : List ℕ → Bool
is_empty content = length content == 0

-- the fault of one item's text
abbrev pub item_fault : List ℕ → Option Fault
item_fault text = limited text (if list_all is_empty (contents text) then Some (whole BadLine) else fault_from 1 [] (one_item 0 (contents text)))

-- the text has no faulty line, and stands for one item
abbrev pub StandsForOne : List ℕ → OneItem → Type 0
StandsForOne text item = (item_fault text ≡ None) × Joins (meanings text) (before item done)

-- Prints: the one text of a list of items.
-- Source: Stim's circuit file format. Which of several texts of the same items is printed is this project's own.
use Rattle.std.specs.Prelude.{ℕ, ◌*◌, suc, List, [], ◌∷◌, ◌++◌, replicate, codes}
use Rattle.stab_instructions.specs.Prints.{operation_text, open_text, coordinates_text}
use Rattle.stab_items.specs.Items.{Items, OneItem, done, next, block, operation, repeat}

-- a line: its content, and in how many blocks it is
pub record PrintedLine : Type 0 where
  pub depth : ℕ
  pub content : List ℕ

-- the lines of items that are in this many blocks
abbrev pub printed_lines : ℕ → Items → List PrintedLine
printed_lines d done = []
printed_lines d (next op rest) = record { depth = d; content = operation_text op } ∷ printed_lines d rest
printed_lines d (block count tag body rest) = record { depth = d; content = open_text count tag } ∷ (printed_lines (suc d) body ++ record { depth = d; content = codes "}" } ∷ printed_lines d rest)

-- a line, with four spaces for each block
abbrev pub line_text : PrintedLine → List ℕ
line_text w = replicate (4 * w.depth) 32 ++ (w.content ++ codes "\n")

-- the lines one after another
abbrev pub text_of : List PrintedLine → List ℕ
text_of [] = []
text_of (w ∷ ws) = line_text w ++ text_of ws

-- the text of items that are in this many blocks
abbrev pub printed_in : ℕ → Items → List ℕ
printed_in d items = text_of (printed_lines d items)

-- the text of items
abbrev pub printed : Items → List ℕ
printed items = printed_in 0 items

-- the coordinates of an item that is a detector, after a space; nothing if it has none, or for any other item
abbrev pub item_coordinates : OneItem → List ℕ
item_coordinates (operation op) = coordinates_text op.kind
item_coordinates (repeat count tag body) = []

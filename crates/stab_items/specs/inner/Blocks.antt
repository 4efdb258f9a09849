-- Blocks: an item whose rounds or whose items become others.
-- Source: this project's own.
use Rattle.std.specs.Prelude.{ℕ, List}
use Rattle.stab_items.specs.Items.{OneItem, operation, repeat, listed}

-- an item with this many rounds, if it is a block
abbrev pub with_rounds : (count : ℕ) → OneItem → OneItem
with_rounds count (operation op) = operation op
with_rounds count (repeat old tag body) = repeat count tag body

-- an item with these items in it, if it is a block
abbrev pub with_body : List OneItem → OneItem → OneItem
with_body xs (operation op) = operation op
with_body xs (repeat count tag body) = repeat count tag (listed xs)

-- the item is an instruction
abbrev pub IsInstruction : OneItem → Type 0
IsInstruction (operation op) = Unit {0}
IsInstruction (repeat count tag body) = ⊥

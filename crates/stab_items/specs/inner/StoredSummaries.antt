-- Stored summaries: what an item's node stands for, and what is stored in it.
-- Source: this project's own.
use Rattle.std.specs.Prelude.{◌≡◌, ◌≤◌, []}
use Rattle.stab_items.specs.declared.item.Node.{Node}
use Rattle.stab_items.specs.declared.item.Node.TheVariants as node
use Rattle.stab_instructions.specs.declared.operation.Kind.TheVariants as kind
use Rattle.stab_instructions.specs.Rules.{IsTag}
use Rattle.stab_items.specs.Items.{OneItem, operation, repeat, listed, AreGood}
use Rattle.stab_items.specs.inner.Summaries.{summary_of, IsSummary}

-- the item that a node stands for
abbrev pub shown : Node → OneItem
shown node.Tick = operation (record { kind = kind.Tick; tag = [] })
shown (node.Instruction op) = operation op.value
shown (node.Block b) = repeat b.value.head.count b.value.head.tag (listed b.value.body.items)

-- a block keeps the summary of one round, has blocks nested at most 15 deep in it, and a tag and items that keep the rules of lines
abbrev pub IsStored : Node → Type 0
IsStored node.Tick = Unit {0}
IsStored (node.Instruction op) = Unit {0}
IsStored (node.Block b) =
    (b.value.head.stored ≡ summary_of (listed b.value.body.items)) × IsSummary b.value.head.stored × (b.value.head.stored.depth ≤ 15)
    × IsTag b.value.head.tag × AreGood (listed b.value.body.items)

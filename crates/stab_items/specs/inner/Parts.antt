-- Parts: what a borrowed item shows of itself.
-- Source: this project's own.
use Rattle.std.specs.Prelude.{◌≡◌, ◌≤◌, []}
use Rattle.stab_instructions.specs.declared.operation.Kind.TheVariants as kind
use Rattle.stab_items.specs.declared.item.Part.{Part}
use Rattle.stab_items.specs.declared.item.Part.TheVariants as part
use Rattle.stab_instructions.specs.Rules.{IsTag}
use Rattle.stab_items.specs.Items.{OneItem, operation, repeat, listed}
use Rattle.stab_items.specs.inner.Summaries.{summary_of}

-- the item that a part is of
abbrev pub part_of : Part → OneItem
part_of part.Tick = operation (record { kind = kind.Tick; tag = [] })
part_of (part.Operation kind tag) = operation (record { kind = kind.now; tag = tag.now })
part_of (part.Block count tag stored body) = repeat count tag.now (listed body.now)

-- a part of a block has the summary of one round, at most 15 blocks are nested in the block, and its tag keeps the rules of one
abbrev pub IsPart : Part → Type 0
IsPart part.Tick = Unit {0}
IsPart (part.Operation kind tag) = Unit {0}
IsPart (part.Block count tag stored body) = (stored ≡ summary_of (listed body.now)) × (stored.depth ≤ 15) × IsTag tag.now

-- Item sizes: a block is deeper than the items in it.
-- Source: this project's own.
use Rattle.std.specs.Prelude.{◌+◌, ◌≤◌, max, List, [], ◌∷◌}
use Rattle.std.proofs.Common.{arith}
use denote.Param.Weighed.{most}
use Rattle.stab_items.specs.declared.item.Node.{Node}
use Rattle.stab_items.specs.declared.item.Node.TheVariants as node
use Rattle.stab_items.specs.declared.item.Item.TheDeep.{deep-Node}
use Rattle.stab_items.specs.Items.{OneItem, operation, repeat, listed, depth, depth_of}
use Rattle.stab_items.specs.inner.StoredSummaries.{shown}

-- no item of a list is deeper than the list
pub most_le-depth : (xs : List OneItem) → most (λ x. depth_of x + 1) xs ≤ depth (listed xs) + 1
most_le-depth [] = omega arith
most_le-depth (operation op ∷ xs) = omega (arith, most_le-depth xs)
most_le-depth (repeat count tag body ∷ xs) = omega (arith, most_le-depth xs)

-- so no child of a node is deeper than the node
pub deep_le-depth : (n : Node) → max (deep-Node n) 0 ≤ depth_of (shown n)
deep_le-depth node.Tick = omega arith
deep_le-depth (node.Instruction op) = omega arith
deep_le-depth (node.Block b) = omega (arith, most_le-depth b.value.body.items)

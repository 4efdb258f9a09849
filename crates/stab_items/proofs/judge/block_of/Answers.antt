use Rattle.stab_items.proofs.Names.{◌∙◌, ap, Some, shown_item}
use Rattle.stab_items.proofs.judge.block_of.Goals as goal

pub returns-in-Block : goal.returns-in-Block
returns-in-Block c = record { value = (c.in-Block.tag.now, ap shown_item c.in-Some.is ∙ ap Some c.in-Block.ensures.value, c.in-Block.ensures.stored.2) }

use Rattle.stab_items.proofs.Names.{◌∙◌, sym}
use Rattle.stab_items.proofs.EditingLemmas.{replaced}
use Rattle.stab_items.proofs.circuit.Circuit.replace.Goals as goal

pub unreachable-requires : goal.unreachable-requires
unreachable-requires c = replaced c.args.path c.args.item c.args.self.now c.edit_alone.new.self (c.in-Ok-None.ensures.ok) (sym c.in-Ok-None.ensures.taken ∙ c.in-Ok-None.field-0-is)

use Rattle.stab_script.proofs.Names.{sym, ◌∙◌}
use Rattle.stab_script.proofs.WordLemmas.{end_of_items}
use Rattle.stab_script.proofs.words.is_end.Goals as goal

pub returns-then-is_empty : goal.returns-then-is_empty
returns-then-is_empty c = record {
  value = end_of_items c.args.circuit.now c.items.result.now c.args.path.now c.blocks-2.result.now c.position.result c.blocks-2.ensures.value (sym c.is_empty.ensures ∙ c.if-is_empty.true) c.position.ensures.value c.items.ensures.value;
}

use Rattle.stab_script.proofs.Names.{OneItem, item_at, counts_text, circuit_items, text_found}
use Rattle.stab_script.proofs.ItemCountLaws.{no_item_there, counts_unshown, counts_reported}
use Rattle.stab_script.proofs.item_counts.show_counts.Goals as goal

pub returns-in_err-item : goal.returns-in_err-item
returns-in_err-item c = record {
  shows = no_item_there c.args.circuit.now c.args.path c.in_err-item.field-0.0 c.from_residual.result c.from_residual.ensures.1 c.in_err-item.ensures.value;
}

pub returns-in_err-before : goal.returns-in_err-before
returns-in_err-before c = record {
  shows = counts_unshown (text_found (λ (x : OneItem). counts_text c.args.path (circuit_items c.args.circuit.now)) (item_at c.args.path c.args.circuit.now)) c.in_err-before.field-0.0 c.from_residual-in_err-before.result c.from_residual-in_err-before.ensures.1 c.in_err-before.ensures.err;
}

pub returns : goal.returns
returns c = record {
  shows = counts_reported c.args.circuit.now c.args.path c.in_ok-item.field-0.now c.in_ok-before.before c.in_ok-before.own c.counts.result c.memory.result
      c.in_ok-item.ensures.value c.in_ok-before.ensures.before c.in_ok-before.ensures.own c.counts.ensures.written c.memory.ensures.same c.memory.ensures.err;
}

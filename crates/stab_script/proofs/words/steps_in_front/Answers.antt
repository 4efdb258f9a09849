use Rattle.stab_script.proofs.Names.{sym, ◌∙◌}
use Rattle.stab_script.proofs.WordLemmas.{front_of_end, front_of_none, front_of_item}
use Rattle.stab_script.proofs.words.steps_in_front.Goals as goal

pub returns-then-is_end : goal.returns-then-is_end
returns-then-is_end c = record {
  gives = front_of_end c.args.circuit.now c.args.path c.in-Some.path c.steps.result c.requires.checked c.in-Some.is (sym c.is_end.ensures.value ∙ c.if-is_end.true) c.steps.ensures.value;
}

pub returns-in_err-item : goal.returns-in_err-item
returns-in_err-item c = record {
  gives = front_of_none c.args.circuit.now c.args.path c.in-Some.path c.in_err-item.field-0.0 c.from_residual.result c.in-Some.is (sym c.is_end.ensures.value ∙ c.if-is_end.false)
      c.in_err-item.ensures.value c.from_residual.ensures.1;
}

pub returns : goal.returns
returns c = record {
  gives = front_of_item c.args.circuit.now c.args.path c.in-Some.path c.in_ok-item.field-0.now c.steps_before.result c.steps-2.result c.min.result c.requires.checked c.in-Some.is
      (sym c.is_end.ensures.value ∙ c.if-is_end.false) c.in_ok-item.ensures.value c.steps_before.ensures.value c.steps-2.ensures.value c.min.ensures;
}

use Rattle.stab_script.proofs.SessionAnswerLaws.{item_refused, item_reported}
use Rattle.stab_script.proofs.session_answers.SessionAnswers.item.Goals as goal

pub returns-in_err-item : goal.returns-in_err-item
returns-in_err-item g c = record {
  shows = item_refused c.circuit.result.now c.args.self.now.session.items c.args.path c.in_err-item.field-0.0 c.from_residual.result c.from_residual.ensures.1 c.circuit.ensures.value c.in_err-item.ensures.value;
}

pub returns : goal.returns
returns g c = record {
  shows = item_reported c.circuit.result.now c.args.self.now.session.items c.args.path c.in_ok-item.item.now c.item-2.result c.memory.result c.circuit.ensures.value c.in_ok-item.ensures.value c.item-2.ensures.written c.memory.ensures.same c.memory.ensures.err;
}

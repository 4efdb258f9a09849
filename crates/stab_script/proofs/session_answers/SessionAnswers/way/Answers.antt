use Rattle.stab_script.proofs.Names.{circuit_items}
use Rattle.stab_script.proofs.WayReplyLemmas.{way_of_session}
use Rattle.stab_script.proofs.session_answers.SessionAnswers.way.Goals as goal

pub returns : goal.returns
returns g c = record {
  shows = way_of_session c.args.self.now.session.qubits c.qubits.result c.args.self.now.session.items (circuit_items c.circuit.result.now) c.args.at.now c.args.word.now c.show_way.result
      c.qubits.ensures.value c.circuit.ensures.value c.show_way.ensures.shows;
}

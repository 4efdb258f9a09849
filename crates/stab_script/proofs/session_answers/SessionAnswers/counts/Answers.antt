use Rattle.stab_script.proofs.ItemCountLaws.{counts_of_session}
use Rattle.stab_script.proofs.session_answers.SessionAnswers.counts.Goals as goal

pub returns : goal.returns
returns g c = record {
  shows = counts_of_session c.circuit.result.now c.args.self.now.session.items c.args.path c.show_counts.result c.circuit.ensures.value c.show_counts.ensures.shows;
}

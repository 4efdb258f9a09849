use Rattle.stab_search.proofs.AnswerLemmas.{answer}
use Rattle.stab_search.proofs.laws.tables_have_answers.Goals as goal

pub returns : goal.returns
returns c = record { law = answer }

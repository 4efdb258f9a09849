use Rattle.stab_script.proofs.AnswerExistLaws.{circuit_can}
use Rattle.stab_script.proofs.laws.circuits_can_be_edited.Goals as goal

pub returns : goal.returns
returns c = record { law = circuit_can c.texts_are_lines.ensures.law }

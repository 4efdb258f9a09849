use Rattle.stab_script.proofs.Names.{held_at_first, requests_of}
use Rattle.stab_script.proofs.AnswerExistLaws.{all_answered}
use Rattle.stab_script.proofs.ScriptNumberLaws.{script_few}
use Rattle.stab_script.proofs.laws.scripts_have_an_answer.Goals as goal

pub returns : goal.returns
returns c = record {
  law = λ s items script can.
      all_answered c.item_texts_have_one_meaning.ensures.law c.item_texts_are_lines.ensures.law c.edited_items_are_of_lines.ensures.law
      c.splits_leave_the_steps.ensures.law c.split_items_are_of_lines.ensures.law
      c.runs_are_sound.ensures.law c.traces_have_reduced_rows.ensures.law
      c.deterministic_parities.ensures.law c.coins_have_rows.ensures.law c.deterministic_has_no_decider.ensures.law c.circuits_have_distances.ensures.law c.lines_keep_qubits_distinct.ensures.law
      s (held_at_first s items) (requests_of script) (script_few script) can;
}

use Rattle.stab_script.proofs.Names.{held_at_first, requests_of}
use Rattle.stab_script.proofs.AnswerLaws.{one_answer_to_all}
use Rattle.stab_script.proofs.laws.scripts_have_one_answer.Goals as goal

pub returns : goal.returns
returns c = record {
  law = λ s items script a b can none p q.
      one_answer_to_all c.item_texts_have_one_meaning.ensures.law c.item_texts_are_lines.ensures.law c.edited_items_are_of_lines.ensures.law c.splits_leave_the_steps.ensures.law
      c.split_items_are_of_lines.ensures.law c.runs_are_sound.ensures.law c.traces_have_one_list.ensures.law
      s (held_at_first s items) (requests_of script) a b can none p q;
}

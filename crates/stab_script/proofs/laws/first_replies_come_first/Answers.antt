use Rattle.stab_script.proofs.AnswerLaws.{first_replies}
use Rattle.stab_script.proofs.ScriptTurnLaws.{begins}
use Rattle.stab_script.proofs.laws.first_replies_come_first.Goals as goal

pub returns : goal.returns
returns c = record {
  law =
      first_replies c.item_texts_have_one_meaning.ensures.law c.item_texts_are_lines.ensures.law c.edited_items_are_of_lines.ensures.law c.splits_leave_the_steps.ensures.law
      c.split_items_are_of_lines.ensures.law c.runs_are_sound.ensures.law c.traces_have_one_list.ensures.law;
  begins = begins;
}

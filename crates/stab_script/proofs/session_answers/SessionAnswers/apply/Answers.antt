use Rattle.stab_script.proofs.SessionAnswerLaws.{reported_made, reported_refusal}
use Rattle.stab_script.proofs.session_answers.SessionAnswers.apply.Goals as goal

pub returns-in_ok-reply-in-Ok-clause-answers : goal.returns-in_ok-reply-in-Ok-clause-answers
returns-in_ok-reply-in-Ok-clause-answers g c =
    reported_made g.C.Coins.sequence c.args.self.now.counted c.args.edit c.args.self.now.session c.apply.new.self c.args.self.now.bookmark c.in_ok-reply-in-Ok.reply.written c.in-Ok.ensures.edited c.in_ok-reply-in-Ok.ensures.written

pub returns-in_ok-answered-in-Err-clause-answers : goal.returns-in_ok-answered-in-Err-clause-answers
returns-in_ok-answered-in-Err-clause-answers g c =
    reported_refusal g.C.Coins.sequence c.args.self.now.counted c.args.edit c.args.self.now.session c.apply.new.self c.args.self.now.bookmark c.in-Err.refused.fault c.in_ok-answered-in-Err.answered.reply.written c.in_ok-answered-in-Err.answered.refused
    c.in-Err.ensures.unchanged c.in-Err.ensures.refused c.in_ok-answered-in-Err.ensures.no_memory c.in_ok-answered-in-Err.ensures.reply c.in_ok-answered-in-Err.ensures.refused

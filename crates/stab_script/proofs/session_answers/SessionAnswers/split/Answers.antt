use Rattle.stab_script.proofs.Names.{entries}
use Rattle.stab_script.proofs.SplitAnswerLaws.{split_held, split_refused}
use Rattle.stab_script.proofs.session_answers.SessionAnswers.split.Goals as goal

pub returns-in-Ok-clause-held : goal.returns-in-Ok-clause-held
returns-in-Ok-clause-held g c = split_held c.args.place c.args.round c.args.self.now.session c.split.new.self c.args.self.now.bookmark c.in-Ok.ensures.split

pub returns-in-Err-clause-shows : goal.returns-in-Err-clause-shows
returns-in-Err-clause-shows g c = split_refused c.args.place c.args.round (entries c.args.self.now.session.items) c.in-Err.fault c.in-Err.ensures.refused

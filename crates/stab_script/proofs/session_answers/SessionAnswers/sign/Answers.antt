use Rattle.stab_script.proofs.Names.{sym, ap, ◌∙◌, session_run, string_of_word}
use Rattle.stab_script.proofs.SessionAnswerLaws.{sign_reported}
use Rattle.stab_script.proofs.session_answers.SessionAnswers.sign.Goals as goal

pub returns-clause-shows : goal.returns-clause-shows
returns-clause-shows g c =
    sign_reported (session_run g.C.Coins.sequence c.args.self.now.session) (string_of_word c.args.self.now.session.qubits c.args.word.now) c.in_ok-string.string c.sign_of-sign.result c.sign.result c.memory.result
    (ap (λ n. string_of_word n c.args.word.now) (sym c.qubits.ensures.value) ∙ c.in_ok-string.ensures.gives) c.sign_of-sign.ensures.sign c.sign.ensures.written c.memory.ensures.same c.memory.ensures.err

use Rattle.stab_script.proofs.Names.{◌≡◌, true, false, rules, circuit_items, held_of}
use Rattle.stab_script.proofs.DeterministicBitLaws.{deterministic_refusal, deterministic_reported}
use Rattle.stab_script.proofs.session_answers.SessionAnswers.answer_deterministic.Goals as goal

pub returns-then-not-self-clause-answers : goal.returns-then-not-self-clause-answers
returns-then-not-self-clause-answers g c =
    let is : c.args.self.now.counted ≡ false = search rules in
    deterministic_refusal c.args.self.now.counted (held_of c.args.self.now.session c.args.self.now.bookmark) c.refuse.result is c.refuse.ensures.reply c.refuse.ensures.refused

pub returns-clause-answers : goal.returns-clause-answers
returns-clause-answers g c =
    let is : c.args.self.now.counted ≡ true = search rules in
    deterministic_reported c.args.self.now.counted (held_of c.args.self.now.session c.args.self.now.bookmark) (circuit_items c.circuit.result.now) c.in_ok-show_deterministic.field-0.written c.in_ok-reported.field-0.written
    is c.circuit.ensures.value c.in_ok-show_deterministic.ensures.shows c.in_ok-reported.ensures.written

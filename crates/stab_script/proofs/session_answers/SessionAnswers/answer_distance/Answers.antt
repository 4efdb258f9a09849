use Rattle.stab_script.proofs.Names.{◌≡◌, true, false, rules, circuit_items, held_of, options_asked}
use Rattle.stab_script.proofs.DistanceLaws.{distance_refused, distance_unframed}
use Rattle.stab_script.proofs.session_answers.SessionAnswers.answer_distance.Goals as goal

pub returns-then-not-self-clause-answers : goal.returns-then-not-self-clause-answers
returns-then-not-self-clause-answers g c =
    let is : c.args.self.now.counted ≡ false = search rules in
    distance_unframed c.args.self.now.counted (held_of c.args.self.now.session c.args.self.now.bookmark) (options_asked c.args.everywhere c.args.most) c.refuse.result is c.refuse.ensures.reply c.refuse.ensures.refused

pub returns-in_ok-answered-in-Err-clause-answers : goal.returns-in_ok-answered-in-Err-clause-answers
returns-in_ok-answered-in-Err-clause-answers g c =
    let is : c.args.self.now.counted ≡ true = search rules in
    distance_refused c.args.self.now.counted (held_of c.args.self.now.session c.args.self.now.bookmark) (options_asked c.args.everywhere c.args.most) (circuit_items c.circuit.result.now) c.in-Err.refusal
    c.in_ok-answered-in-Err.answered.reply.written c.in_ok-answered-in-Err.answered.refused is c.circuit.ensures.value c.in-Err.ensures.shows
    c.in_ok-answered-in-Err.ensures.no_memory c.in_ok-answered-in-Err.ensures.reply c.in_ok-answered-in-Err.ensures.refused

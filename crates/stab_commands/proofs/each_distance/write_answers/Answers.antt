use Rattle.stab_commands.proofs.Names.{drop, get_or_read, sym, subst, circuit_items, failed_on, wrote_part, wrote_and_failed, Took, TookAndFailed, IsDistanceOf, answer_text, DistanceOptions}
use Rattle.stab_search.specs.declared.answer.Answer.TheVariants.{NoneAtAll}
use Rattle.stab_report.specs.Distances.{answer_texts}
use Rattle.stab_commands.proofs.EachLaws.{answer_read, texts_left}
use Rattle.stab_commands.proofs.each_distance.write_answers.Goals as goal

pub write_answer-requires-clause-found : goal.write_answer-requires-clause-found
write_answer-requires-clause-found g c =
    let items = circuit_items c.args.circuit.now in
    let t = c.args.errors.now in
    let a = c.index-answers-number.result in
    let read = sym (get_or_read c.args.answers.now c.answers.number a c.answers-test.true c.index-answers-number.is NoneAtAll) in
    subst (λ (o : DistanceOptions). IsDistanceOf o items t a) (sym c.for_observable-asked.ensures.value) (answer_read c.args.options items t c.args.answers.now c.answers.number a c.requires.found c.answers-test.true read)

pub answers-preserved : goal.answers-preserved
answers-preserved g c =
    let options = c.args.options in
    let items = circuit_items c.args.circuit.now in
    let t = c.args.errors.now in
    let k = c.answers.number in
    let a = c.index-answers-number.result in
    let answers = c.args.answers.now in
    let split = texts_left options items t answers k a c.answers-test.true (sym (get_or_read answers k a c.answers-test.true c.index-answers-number.is NoneAtAll)) in
    let wrote = subst (λ (o : DistanceOptions). Took (g.O.Output.seen c.answers.out) (g.O.Output.seen c.write_answer.new.out) (answer_text o items t a)) c.for_observable-asked.ensures.value c.in_ok-write_answer.ensures.writes in
    wrote_part (answer_texts options items t 0 answers) (answer_texts options items t k (drop k answers)) _ _ split c.answers.invariant wrote

pub returns-in_err-write_answer : goal.returns-in_err-write_answer
returns-in_err-write_answer g c =
    let options = c.args.options in
    let items = circuit_items c.args.circuit.now in
    let t = c.args.errors.now in
    let k = c.answers.number in
    let a = c.index-answers-number.result in
    let answers = c.args.answers.now in
    let all = answer_texts options items t 0 answers in
    let split = texts_left options items t answers k a c.answers-test.true (sym (get_or_read answers k a c.answers-test.true c.index-answers-number.is NoneAtAll)) in
    let failed = subst (λ (o : DistanceOptions). TookAndFailed (g.O.Output.seen c.answers.out) (g.O.Output.seen c.write_answer.new.out) (answer_text o items t a)) c.for_observable-asked.ensures.value c.in_err-write_answer.ensures.writes.1 in record {
      writes = failed_on (g.O.Output.seen c.args.out.now) (g.O.Output.seen c.write_answer.new.out) all c.in_err-write_answer.field-0.0 c.from_residual.result c.from_residual.ensures.1
          c.in_err-write_answer.ensures.writes.0
          (wrote_and_failed all (answer_texts options items t k (drop k answers)) _ _ split c.answers.invariant failed);
    }

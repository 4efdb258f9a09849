use Rattle.stab_commands.proofs.Names.{drop, WroteUpTo, circuit_items}
use Rattle.stab_report.specs.Distances.{answer_texts}
use Rattle.stab_commands.proofs.each_distance.write_answers.Given as goal

abbrev pub invariant-answers : goal.invariant-answers
invariant-answers g l =
    let items = circuit_items l.circuit in
    WroteUpTo (g.O.Output.seen l.initial.out) (g.O.Output.seen l.out) (answer_texts l.options items l.errors 0 l.answers) (answer_texts l.options items l.errors l.number (drop l.number l.answers))

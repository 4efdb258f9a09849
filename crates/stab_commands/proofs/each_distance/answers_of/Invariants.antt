use Rattle.stab_commands.proofs.Names.{◌≡◌, length, AreErrorsOf, Items}
use Rattle.stab_report.specs.Distances.{AreDistanceAnswers}
use Rattle.stab_commands.proofs.each_distance.answers_of.Given as goal

abbrev pub invariant-observables : goal.invariant-observables
invariant-observables l = record {
  found : (items : Items) → AreErrorsOf l.options items l.errors → AreDistanceAnswers l.options items l.errors 0 l.answers.items;
  each : length l.answers.items ≡ l.number;
}

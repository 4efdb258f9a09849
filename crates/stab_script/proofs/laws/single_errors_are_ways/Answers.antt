use Rattle.stab_script.proofs.SingleErrorWayLemmas.{single_errors-are-ways}
use Rattle.stab_script.proofs.laws.single_errors_are_ways.Goals as goal

pub returns : goal.returns
returns c = record {
  law = single_errors-are-ways c.runs_are_points_with_outputs.ensures.law c.deterministic_parities.ensures.law c.single_errors_flip_parities.ensures.law c.letters_flip_runs.ensures.law;
}

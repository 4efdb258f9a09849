use Rattle.stab_regions.proofs.SingleErrorBitLemmas.{single_errors-flip-parities, sites-flip-deterministic-parities}
use Rattle.stab_regions.proofs.single_error_laws.single_errors_flip_parities.Goals as goal

pub returns : goal.returns
returns c = record {
  law = single_errors-flip-parities c.runs_are_points_with_outputs.ensures.law;
  sites = sites-flip-deterministic-parities c.runs_are_points_with_outputs.ensures.law;
}

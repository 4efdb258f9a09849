use Rattle.stab_regions.proofs.SingleErrorBitLemmas.{deterministic-parities, deterministic-parity-bits}
use Rattle.stab_regions.proofs.single_error_laws.deterministic_parities.Goals as goal

pub returns : goal.returns
returns c = record {
  law = deterministic-parities c.runs_are_points_with_outputs.ensures.law;
  bits = deterministic-parity-bits c.runs_are_points_with_outputs.ensures.law;
}

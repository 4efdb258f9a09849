use Rattle.stab_commands.proofs.ReasonLaws.{deterministic-has-no-decider}
use Rattle.stab_commands.proofs.laws.deterministic_has_no_decider.Goals as goal

pub returns : goal.returns
returns c = record { law = deterministic-has-no-decider }

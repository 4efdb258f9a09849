use Rattle.stab_commands.proofs.CountLaws.{numbers_of_runs}
use Rattle.stab_commands.proofs.laws.numbers_are_of_runs.Goals as goal

pub returns : goal.returns
returns c = record { law = numbers_of_runs }

use Rattle.stab_commands.proofs.RowLemmas.{coins-have-rows}
use Rattle.stab_commands.proofs.laws.coins_have_rows.Goals as goal

pub returns : goal.returns
returns c = record { law = coins-have-rows }

use Rattle.stab_script.proofs.EndingLaws.{plain_ends}
use Rattle.stab_script.proofs.edit.run_edit.Goals as goal

pub returns : goal.returns
returns g c = record { ends = plain_ends c.args.qubits c.args.source.now _ _ _ _ _ _ _ c.run_edit_watched.ensures.ends }

use Rattle.stab_commands.proofs.CheckLaws.{explained_in_part}
use Rattle.stab_commands.proofs.check.send_explanation.Goals as goal

pub returns-in_default : goal.returns-in_default
returns-in_default g c = record { sends = explained_in_part (g.O.Output.seen c.args.out.now) (g.O.Output.seen c.write_explanation.new.out) c.write_explanation.result c.in_default.not-Ok c.write_explanation.ensures.appends }

use Rattle.stab_args.proofs.Names.{rules}
use Rattle.stab_args.proofs.words.app.bare_command.Goals as goal

pub returns : goal.returns
returns c = record { app = search rules }

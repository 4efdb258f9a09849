use Rattle.stab_args.proofs.words.app.check_command.Goals as goal

pub returns : goal.returns
returns c = record { app = c.with_files.ensures.app _ c.named_command-command.ensures.app }

use Rattle.stab_args.proofs.words.app.detect_command.Goals as goal

pub returns : goal.returns
returns c = record { app = c.with_option.ensures.app _ _ c.shot_command-shown.ensures.app c.flag.ensures.rule }

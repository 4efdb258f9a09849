use Rattle.stab_args.proofs.words.app.deterministic_command.Goals as goal

pub returns : goal.returns
returns c =
    let format = c.with_option-command.ensures.app _ _ c.named_command.ensures.app c.named.ensures.rule in
    let explain = c.with_option-command-2.ensures.app _ _ format c.flag.ensures.rule in
    record { app = c.with_files.ensures.app _ explain }

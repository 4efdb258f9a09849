use Rattle.stab_args.proofs.words.app.propagate_each_command.Goals as goal

pub returns : goal.returns
returns c =
    let everywhere = c.with_option-command.ensures.app _ _ c.named_command.ensures.app c.flag.ensures.rule in
    record { app = c.with_files.ensures.app _ everywhere }

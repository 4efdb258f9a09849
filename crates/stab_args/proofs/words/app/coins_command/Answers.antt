use Rattle.stab_args.proofs.words.app.coins_command.Goals as goal

pub returns : goal.returns
returns c =
    let layout = c.with_option-command.ensures.app _ _ c.named_command.ensures.app c.one_name.ensures.rule in
    record { app = c.with_files.ensures.app _ layout }

use Rattle.stab_args.proofs.words.app.propagate_command.Goals as goal

pub returns : goal.returns
returns c =
    let at = c.with_option-command.ensures.app _ _ c.named_command.ensures.app (c.wanted-at.ensures.rule _ c.valued.ensures.rule) in
    let string = c.with_option-command-2.ensures.app _ _ at (c.wanted-string.ensures.rule _ c.positional.ensures.rule) in
    let every = c.with_option-command-3.ensures.app _ _ string c.flag.ensures.rule in
    record { app = c.with_files.ensures.app _ every }

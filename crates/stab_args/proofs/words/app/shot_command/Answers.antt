use Rattle.stab_args.proofs.words.app.shot_command.Goals as goal

pub returns : goal.returns
returns c =
    let shots = c.with_option-command.ensures.app _ _ c.named_command.ensures.app c.numbered-shots.ensures.rule in
    let first = c.with_option-command-2.ensures.app _ _ shots c.ranged-first.ensures.rule in
    let format = c.with_option-command-3.ensures.app _ _ first c.named.ensures.rule in
    record { app = c.with_common.ensures.app _ format }

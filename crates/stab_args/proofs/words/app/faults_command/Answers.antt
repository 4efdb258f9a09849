use Rattle.stab_args.proofs.words.app.faults_command.Goals as goal

pub returns : goal.returns
returns c =
    let layout = c.with_option-command.ensures.app _ _ c.named_command.ensures.app c.one_name.ensures.rule in
    let everywhere = c.with_option-command-2.ensures.app _ _ layout c.flag.ensures.rule in
    let deterministic_only = c.with_option-command-3.ensures.app _ _ everywhere c.in_ok-only.ensures.rule in
    record { app = c.with_files.ensures.app _ deterministic_only }

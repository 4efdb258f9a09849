use Rattle.stab_args.proofs.words.app.distance_command.Goals as goal

pub returns : goal.returns
returns c =
    let everywhere = c.with_option-command.ensures.app _ _ c.named_command.ensures.app c.flag.ensures.rule in
    let letters = c.with_option-command-2.ensures.app _ _ everywhere c.named.ensures.rule in
    let most = c.with_option-command-3.ensures.app _ _ letters c.ranged.ensures.rule in
    let graphlike = c.with_option-command-4.ensures.app _ _ most c.flag-2.ensures.rule in
    let observable = c.with_option-command-5.ensures.app _ _ graphlike c.ranged-2.ensures.rule in
    let each = c.with_option-command-6.ensures.app _ _ observable c.flag-3.ensures.rule in
    let table = c.with_option-command-7.ensures.app _ _ each c.flag-4.ensures.rule in
    let wcnf = c.with_option-command-8.ensures.app _ _ table c.flag-5.ensures.rule in
    let count = c.with_option-command-9.ensures.app _ _ wcnf c.flag-6.ensures.rule in
    let part = c.with_option-command-10.ensures.app _ _ count c.valued.ensures.rule in
    let deterministic_only = c.with_option-command-11.ensures.app _ _ part c.in_ok-only.ensures.rule in
    let progress = c.with_option-command-12.ensures.app _ _ deterministic_only c.flag-7.ensures.rule in
    record { app = c.with_files.ensures.app _ progress }

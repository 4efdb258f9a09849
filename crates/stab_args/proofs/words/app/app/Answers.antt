use Rattle.stab_args.proofs.words.app.app.Goals as goal

pub returns : goal.returns
returns c =
    let first = c.with_command-program.ensures.app _ _ c.bare_command.ensures.app c.shot_command-sample.ensures.app in
    let second = c.with_command-program-2.ensures.app _ _ first c.detect_command.ensures.app in
    let third = c.with_command-program-3.ensures.app _ _ second c.stabilisers_command.ensures.app in
    let fourth = c.with_command-program-4.ensures.app _ _ third c.edit_command.ensures.app in
    let fifth = c.with_command-program-5.ensures.app _ _ fourth c.check_command.ensures.app in
    let sixth = c.with_command-program-6.ensures.app _ _ fifth c.deterministic_command.ensures.app in
    let seventh = c.with_command-program-7.ensures.app _ _ sixth c.faults_command.ensures.app in
    let eighth = c.with_command-program-8.ensures.app _ _ seventh c.coins_command.ensures.app in
    let ninth = c.with_command-program-9.ensures.app _ _ eighth c.distance_command.ensures.app in
    let tenth = c.with_command-program-10.ensures.app _ _ ninth c.propagate_command.ensures.app in
    record { app = c.with_command.ensures.app _ _ tenth c.propagate_each_command.ensures.app }

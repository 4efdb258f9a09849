use Rattle.stab_args.proofs.words.app.edit_command.Goals as goal

pub returns : goal.returns
returns c =
    let qubits = c.with_option-command.ensures.app _ _ c.named_command.ensures.app c.ranged-qubits.ensures.rule in
    let stride = c.with_option-command-2.ensures.app _ _ qubits c.numbered-stride.ensures.rule in
    let framed = c.with_option-command-3.ensures.app _ _ stride c.flag.ensures.rule in
    record { app = c.with_common.ensures.app _ framed }

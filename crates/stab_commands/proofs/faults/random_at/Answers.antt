use Rattle.stab_commands.proofs.Names.{◌∙◌, ap, qubits_of, circuit_items, bit_of}
use Rattle.stab_report.proofs.RandomLaws.{random_within}
use Rattle.stab_commands.proofs.faults.random_at.Goals as goal

pub path_of_bit-requires-clause-in_range : goal.path_of_bit-requires-clause-in_range
path_of_bit-requires-clause-in_range c =
    let items = circuit_items c.args.circuit.now in
    let is = c.bit_of-bit.ensures.value ∙ ap (λ d. bit_of d c.args.number) c.requires.detectors in
    random_within (qubits_of items) items c.args.number c.bit_of-bit.result is c.requires.not_deterministic

use Rattle.stab_script.proofs.Names.{circuit_items}
use Rattle.stab_script.proofs.DeterministicBitLaws.{deterministic_shown}
use Rattle.stab_script.proofs.circuit_replies.show_deterministic.Goals as goal

pub returns-clause-shows : goal.returns-clause-shows
returns-clause-shows c =
    deterministic_shown (circuit_items c.args.circuit.now) c.qubits.result c.in_ok-deterministic.deterministic.items c.as_slice.result.now c.bits.result c.in_ok-deterministic.ensures.deterministic c.qubits.ensures.value c.as_slice.ensures.value c.bits.ensures.written

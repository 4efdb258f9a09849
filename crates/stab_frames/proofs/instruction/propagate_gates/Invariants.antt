use Rattle.stab_frames.proofs.Names.{◌≡◌, length, map, take, one, GoesWithoutCoins}
use Rattle.stab_frames.proofs.instruction.propagate_gates.Given as goal

abbrev pub invariant-loop-qubit : goal.invariant-loop-qubit
invariant-loop-qubit l = record {
  size : length l.propagation.letters ≡ length l.initial.propagation.letters;
  goes : GoesWithoutCoins (length l.initial.propagation.letters) (map (one l.gate) (take l.qubit-index l.qubits)) l.initial.propagation l.propagation;
}

use Rattle.stab_sampler.proofs.Names.{◌≡◌, length, map, take, one, GoWithoutCoins}
use Rattle.stab_sampler.proofs.steps.propagate_gates.Given as goal

abbrev pub invariant-loop-qubit : goal.invariant-loop-qubit
invariant-loop-qubit g l = record {
  frames : length l.lanes.frames.letters.items ≡ length l.initial.lanes.frames.letters.items;
  goes : GoWithoutCoins g.W.Word.at g.W.Word.lanes (map (one l.gate) (take l.qubit-index l.qubits)) l.initial.lanes l.lanes;
}

use Rattle.stab_frames.proofs.Names.{◌≡◌, ◌+◌, ◌-◌, ◌≤◌, ◌++◌, take, drop}
use Rattle.stab_frames.proofs.pivots.Pivots.append_again.Given as goal

abbrev pub invariant-loop-number : goal.invariant-loop-number
invariant-loop-number l = record {
  begun : l.from ≤ l.number;
  far : l.number - l.from ≤ l.end - l.from;
  qubits : l.self.qubits ≡ l.fn.self.qubits;
  most : l.self.most ≡ l.fn.self.most + (l.number - l.from);
  strings : l.self.strings ≡ l.fn.self.strings ++ take (l.number - l.from) (drop l.from (take l.to l.fn.self.strings));
}

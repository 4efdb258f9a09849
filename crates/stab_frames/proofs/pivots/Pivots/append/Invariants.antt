use Rattle.stab_frames.proofs.Names.{◌≡◌, take, map, stored_with}
use Rattle.stab_frames.proofs.pivots.Pivots.append.Given as goal

abbrev pub invariant-loop-string : goal.invariant-loop-string
invariant-loop-string l = record {
  qubits : l.self.qubits ≡ l.initial.self.qubits;
  most : l.self.most ≡ l.initial.self.most;
  strings : l.self.strings ≡ stored_with l.initial.self.most l.initial.self.strings (map (λ p. p.value.letters) (take l.string-index l.strings));
}

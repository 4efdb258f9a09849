use Rattle.stab_frames.proofs.Names.{◌≡◌, ◌+◌, ◌≤◌, map, take, measured, ones, program_state, output_of, AreOnQubits, RecordsNoLess, PivotsSteps}
use Rattle.stab_frames.proofs.pivot_recorder.PivotRecorder.run_targets.Given as goal

abbrev pub invariant-loop-target : goal.invariant-loop-target
invariant-loop-target g l = record {
  counted : l.applied ≡ l.initial.applied + l.target-index;
  qubits : l.tableau.qubits ≡ l.initial.tableau.qubits;
  sized : AreOnQubits l.initial.tableau.qubits l.string l.self;
  same_coins : g.C.Coins.sequence l.coins ≡ g.C.Coins.sequence l.initial.coins;
  asks : g.C.Coins.asks l.coins ≤ g.C.Coins.asks l.initial.coins + l.target-index;
  asks_random : g.C.Coins.asks l.coins + ones l.initial.outputs.free.items ≤ g.C.Coins.asks l.initial.coins + ones l.outputs.free.items;
  no_less : RecordsNoLess l.initial.self l.self;
  has_pivots : PivotsSteps l.initial.tableau.qubits (g.C.Coins.sequence l.initial.coins) (map (measured l.measurement) (take l.target-index l.targets)) l.self.window
      l.initial.self.strings l.self.strings (program_state l.initial.tableau (output_of l.initial.outputs)) (program_state l.tableau (output_of l.outputs));
}

use Rattle.stab_run.proofs.Names.{◌≡◌, ◌+◌, ◌≤◌, length, map, take, measured, ones, IsRun, program_state, output_of}
use Rattle.stab_run.proofs.steps.measure_targets.Given as goal

abbrev pub invariant-loop-target : goal.invariant-loop-target
invariant-loop-target g l = record {
  counted : l.applied ≡ l.initial.applied + l.target-index;
  qubits : l.tableau.qubits ≡ l.initial.tableau.qubits;
  string : length l.string.letters ≡ length l.initial.string.letters;
  same_coins : g.C.Coins.sequence l.coins ≡ g.C.Coins.sequence l.initial.coins;
  asks : g.C.Coins.asks l.coins ≤ g.C.Coins.asks l.initial.coins + l.target-index;
  asks_random : g.C.Coins.asks l.coins + ones l.initial.outputs.free.items ≤ g.C.Coins.asks l.initial.coins + ones l.outputs.free.items;
  run : IsRun l.initial.tableau.qubits (g.C.Coins.sequence l.initial.coins) (map (measured l.measurement) (take l.target-index l.targets))
      (program_state l.initial.tableau (output_of l.initial.outputs)) (program_state l.tableau (output_of l.outputs));
}

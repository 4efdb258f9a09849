use Rattle.stab_recording.proofs.Names.{◌≡◌, ℕ, ◌+◌, ◌≤◌, All, length, take, drop, ones, all_coins_of, ProgramState, StepFits, program_state, output_of, PivotsState, PivotsSteps, AreOnQubits, RecordsNoLess}
use Rattle.stab_recording.proofs.recorded_steps.run_recording_pivots.Given as goal

abbrev pub invariant-loop-left : goal.invariant-loop-left
invariant-loop-left g l = record {
  fits : All (StepFits l.tableau.qubits) l.cursor.left;
  few : l.applied + length l.cursor.left ≡ l.initial.applied + length l.initial.cursor.left;
  counted : l.applied + length (take l.left l.cursor.left) ≡ l.initial.applied + length (take l.most l.initial.cursor.left);
  rest : drop l.left l.cursor.left ≡ drop l.most l.initial.cursor.left;
  all : l.cursor.all ≡ l.initial.cursor.all;
  qubits : l.tableau.qubits ≡ l.initial.tableau.qubits;
  sized : AreOnQubits l.initial.tableau.qubits l.string l.pivots;
  same_coins : g.C.Coins.sequence l.coins ≡ g.C.Coins.sequence l.initial.coins;
  asks : g.C.Coins.asks l.coins + all_coins_of (take l.left l.cursor.left) ≤ g.C.Coins.asks l.initial.coins + all_coins_of (take l.most l.initial.cursor.left);
  asks_random : g.C.Coins.asks l.coins + ones l.initial.outputs.free.items ≤ g.C.Coins.asks l.initial.coins + ones l.outputs.free.items;
  no_less : RecordsNoLess l.initial.pivots l.pivots;
  has_pivots : (window : ℕ) (new : ProgramState) (stored : PivotsState) → l.pivots.window ≤ window
      → PivotsSteps l.initial.tableau.qubits (g.C.Coins.sequence l.initial.coins) (take l.left l.cursor.left) window l.pivots.strings stored
      (program_state l.tableau (output_of l.outputs)) new
      → PivotsSteps l.initial.tableau.qubits (g.C.Coins.sequence l.initial.coins) (take l.most l.initial.cursor.left) window l.initial.pivots.strings stored
      (program_state l.initial.tableau (output_of l.initial.outputs)) new;
}

abbrev pub decreases-loop-left : goal.decreases-loop-left
decreases-loop-left g l = l.left

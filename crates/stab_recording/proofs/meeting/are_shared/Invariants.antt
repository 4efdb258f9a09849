use Rattle.stab_recording.proofs.Names.{◌≡◌, ℕ, ◌<◌, ◌≤◌, true, length, stabilises, stabiliser_of}
use Rattle.stab_recording.proofs.meeting.are_shared.Given as goal

abbrev pub invariant-loop-k : goal.invariant-loop-k
invariant-loop-k l = record {
  same : l.tableau ≡ l.fn.tableau;
  other_same : l.other ≡ l.fn.other;
  all : (j : ℕ) → j < l.k → l.fn.from ≤ j → (length (stabiliser_of l.fn.tableau j).letters ≡ l.fn.tableau.qubits) × (stabilises l.fn.other (stabiliser_of l.fn.tableau j) ≡ true);
}

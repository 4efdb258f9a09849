use Rattle.stab_sampler.proofs.Names.{◌≡◌, ◌-◌, ◌≤◌, take, unroll, circuit_items, IsSized, IsPartRecording, AreLanes}
use Rattle.stab_sampler.proofs.run.propagate_by_parts.Given as goal

abbrev pub invariant-loop-from : goal.invariant-loop-from
invariant-loop-from g l = record {
  within : l.from ≤ l.steps;
  sized : IsSized l.initial.recording.tableau.qubits l.recording;
  recorded : IsPartRecording l.initial.recording.tableau.qubits (take l.from (unroll (circuit_items l.circuit))) l.recording;
  same_coins : g.D.Draw.sequences l.draw ≡ g.D.Draw.sequences l.initial.draw;
  lanes : AreLanes g.W.Word.at g.W.Word.lanes l.initial.recording.tableau.qubits (g.D.Draw.sequences l.initial.draw) (take l.from (unroll (circuit_items l.circuit))) l.lanes;
}

abbrev pub decreases-loop-from : goal.decreases-loop-from
decreases-loop-from g l = l.steps - l.from

use Rattle.stab_sampler.proofs.Names.{◌≡◌, ◌-◌, ◌≤◌, take, IfSome, unroll, circuit_items, after_rounds, ArePropagated, IsLaneCheckpoint}
use Rattle.stab_sampler.proofs.rounds.propagate_rounds.Given as goal

abbrev pub invariant-loop-done : goal.invariant-loop-done
invariant-loop-done g l = record {
  within : l.done ≤ l.repeat.rounds;
  same_coins : g.D.Draw.sequences l.draw ≡ g.D.Draw.sequences l.fn.draw;
  earlier : IfSome l.checkpoint (λ m. m.done ≤ l.done);
  checkpoint : IfSome l.checkpoint (IsLaneCheckpoint g.W.Word.at g.W.Word.lanes l.recorded_pivots (g.D.Draw.sequences l.fn.draw) (unroll (circuit_items l.circuit)) l.repeat);
  advanced : ArePropagated g.W.Word.at g.W.Word.lanes l.recorded_pivots (g.D.Draw.sequences l.fn.draw) (take (after_rounds l.repeat l.done) (unroll (circuit_items l.circuit))) l.lanes;
}

abbrev pub decreases-loop-done : goal.decreases-loop-done
decreases-loop-done g l = l.most - l.done

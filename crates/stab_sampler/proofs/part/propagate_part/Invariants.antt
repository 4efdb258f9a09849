use Rattle.stab_sampler.proofs.Names.{◌≡◌, All, take, drop, unroll, circuit_items, StepFits, Lanes, MayPropagateLanes, GoOver}
use Rattle.stab_sampler.proofs.part.propagate_part.Given as goal

abbrev pub invariant-loop-left : goal.invariant-loop-left
invariant-loop-left g l = record {
  fits : All (StepFits l.recorded_pivots.strings.now.qubits) l.cursor.left;
  may : MayPropagateLanes l.recorded_pivots l.lanes;
  same_coins : g.D.Draw.sequences l.draw ≡ g.D.Draw.sequences l.fn.draw;
  goes : (new : Lanes g.row.W.Denot) → GoOver g.W.Word.at g.W.Word.lanes l.recorded_pivots (g.D.Draw.sequences l.fn.draw) (take l.left l.cursor.left) l.lanes new
      → GoOver g.W.Word.at g.W.Word.lanes l.recorded_pivots (g.D.Draw.sequences l.fn.draw) (take l.count (drop l.from (unroll (circuit_items l.circuit)))) l.fn.lanes new;
}

abbrev pub decreases-loop-left : goal.decreases-loop-left
decreases-loop-left g l = l.left

use Rattle.stab_sampler.proofs.Names.{◌≡◌, ◌≤◌, length, take, drop, unroll, circuit_items, AreRepeats, ArePropagated}
use Rattle.stab_sampler.proofs.rounds.propagate_blocks.Given as goal

abbrev pub invariant-loop-repeat : goal.invariant-loop-repeat
invariant-loop-repeat g l = record {
  within : l.from ≤ length (unroll (circuit_items l.circuit));
  repeats : AreRepeats l.from (unroll (circuit_items l.circuit)) (drop l.repeat-index l.repeats);
  same_coins : g.D.Draw.sequences l.draw ≡ g.D.Draw.sequences l.fn.draw;
  advanced : ArePropagated g.W.Word.at g.W.Word.lanes l.recorded_pivots (g.D.Draw.sequences l.fn.draw) (take l.from (unroll (circuit_items l.circuit))) l.lanes;
}

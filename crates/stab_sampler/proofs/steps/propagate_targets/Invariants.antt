use Rattle.stab_sampler.proofs.Names.{◌≡◌, map, take, measured, GoOver}
use Rattle.stab_sampler.proofs.steps.propagate_targets.Given as goal

abbrev pub invariant-loop-target : goal.invariant-loop-target
invariant-loop-target g l = record {
  same_coins : g.D.Draw.sequences l.draw ≡ g.D.Draw.sequences l.initial.draw;
  goes : GoOver g.W.Word.at g.W.Word.lanes l.recorded_pivots (g.D.Draw.sequences l.initial.draw) (map (measured l.measurement) (take l.target-index l.targets)) l.initial.lanes l.lanes;
}

use Rattle.stab_sampler.proofs.Names.{◌≡◌, length, map, take, controlled_step, GoWithoutCoins}
use Rattle.stab_sampler.proofs.steps.propagate_pairs.Given as goal

abbrev pub invariant-loop-pair : goal.invariant-loop-pair
invariant-loop-pair g l = record {
  frames : length l.lanes.frames.letters.items ≡ length l.initial.lanes.frames.letters.items;
  goes : GoWithoutCoins g.W.Word.at g.W.Word.lanes (map (controlled_step l.axis) (take l.pair-index l.pairs)) l.initial.lanes l.lanes;
}

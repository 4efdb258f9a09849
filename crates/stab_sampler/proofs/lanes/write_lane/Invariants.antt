use Rattle.stab_sampler.proofs.Names.{◌≡◌, take, lane_bits}
use Rattle.stab_sampler.proofs.lanes.write_lane.Given as goal

abbrev pub invariant-loop-word : goal.invariant-loop-word
invariant-loop-word g l = l.bits.items ≡ lane_bits g.W.Word.at l.lane (take l.word-index l.words)

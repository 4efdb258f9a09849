use Rattle.stab_sampler.proofs.Names.{◌≡◌, ℕ, ◌<◌, drop, ◌⊕◌, parity, lane_bits}
use Rattle.stab_sampler.proofs.lanes.parity.Given as goal

abbrev pub invariant-loop-k : goal.invariant-loop-k
invariant-loop-k g l =
    (j : ℕ) → j < g.W.Word.lanes
    → g.W.Word.at l.parity j ⊕ parity (lane_bits g.W.Word.at j l.records) (drop l.k-index l.lookbacks) ≡ parity (lane_bits g.W.Word.at j l.records) l.lookbacks

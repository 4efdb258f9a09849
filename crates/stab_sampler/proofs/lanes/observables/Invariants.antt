use Rattle.stab_sampler.proofs.Names.{◌≡◌, ℕ, ◌<◌, drop, replicate, false, with_additions, lane_bits, lane_additions}
use Rattle.stab_sampler.proofs.lanes.observables.Given as goal

abbrev pub invariant-loop-sum : goal.invariant-loop-sum
invariant-loop-sum g l =
    (j : ℕ) → j < g.W.Word.lanes
    → with_additions (lane_additions g.W.Word.at j (drop l.sum-index l.sums)) (lane_bits g.W.Word.at j l.observables.items)
    ≡ with_additions (lane_additions g.W.Word.at j l.sums) (replicate l.count false)

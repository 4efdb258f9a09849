use Rattle.stab_sampler.proofs.Names.{◌≡◌, ℕ, ◌<◌, take, looked_up, lane_bits}
use Rattle.stab_sampler.proofs.checkpoints.same_records.Given as goal

abbrev pub invariant-loop-k : goal.invariant-loop-k
invariant-loop-k g l = (j : ℕ) → j < g.W.Word.lanes → (k : ℕ) → k < l.k
    → looked_up (take l.following (lane_bits g.W.Word.at j l.records)) k ≡ looked_up (lane_bits g.W.Word.at j l.records) k

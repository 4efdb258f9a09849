use Rattle.stab_sampler.proofs.Names.{◌≡◌, ℕ, ◌+◌, ◌<◌, Bool, length, Items, AreRuns, AreShots}
use Rattle.stab_sampler.proofs.batches.push_lanes.Given as goal

abbrev pub invariant-loop-lane : goal.invariant-loop-lane
invariant-loop-lane g l = record {
  number : length l.shots.items ≡ length l.initial.shots.items + l.lane;
  shots : (n : ℕ) (coins : ℕ → ℕ → Bool) (items : Items) → AreShots n coins items l.initial.shots.items
      → ((k : ℕ) → k < l.lane → AreRuns g.W.Word.at k n (coins (length l.initial.shots.items + k)) items l.lists) → AreShots n coins items l.shots.items;
}

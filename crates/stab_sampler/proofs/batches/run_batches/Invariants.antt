use Rattle.stab_sampler.proofs.Names.{◌≡◌, ◌-◌, ◌≤◌, length, circuit_items, shot_coins, AreShots}
use Rattle.stab_sampler.proofs.batches.run_batches.Given as goal

abbrev pub invariant-loop-made : goal.invariant-loop-made
invariant-loop-made g l = record {
  within : l.made ≤ l.number;
  number : length l.shots.items ≡ l.made;
  shots : AreShots l.n (shot_coins l.seed l.first) (circuit_items l.circuit) l.shots.items;
}

abbrev pub decreases-loop-made : goal.decreases-loop-made
decreases-loop-made g l = l.number - l.made

use Rattle.stab_sampler.proofs.Names.{◌≡◌, ℕ, ◌+◌, ◌*◌, length, lane_coin, AreCoinsOfParts}
use Rattle.stab_sampler.proofs.coins.write_parts.Given as goal

abbrev pub invariant-loop-part : goal.invariant-loop-part
invariant-loop-part g l = record {
  size : length l.parts ≡ g.row.N;
  made : AreCoinsOfParts l.fn.shots l.group l.part l.parts;
  later : (j t : ℕ) → lane_coin l.left j t ≡ lane_coin l.fn.shots (64 * l.part + j) t;
}

use Rattle.stab_commands.proofs.Names.{◌≡◌, ◌+◌, length, drop, unroll, circuit_items}
use Rattle.stab_commands.proofs.CoinPositionLemmas.{AreGathered}
use Rattle.stab_commands.proofs.coin_positions.coin_positions.Given as goal

abbrev pub invariant-steps : goal.invariant-steps
invariant-steps l = record {
  left : drop l.number (unroll (circuit_items l.circuit)) ≡ l.cursor.left;
  count : l.number + length l.cursor.left ≡ length (unroll (circuit_items l.circuit));
  gathered : AreGathered l.free (unroll (circuit_items l.circuit)) l.number l.coin l.positions.numbers.items l.positions.steps.items;
}

abbrev pub decreases-steps : goal.decreases-steps
decreases-steps l = length l.cursor.left

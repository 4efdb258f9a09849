use Rattle.stab_commands.proofs.Names.{◌≡◌, ◌+◌, length, unroll, detectors_of, circuit_items, all_coins_of}
use Rattle.stab_commands.proofs.check.count_steps.Given as goal

abbrev pub invariant-steps : goal.invariant-steps
invariant-steps l = (l.all.detectors + detectors_of l.cursor.left ≡ detectors_of (unroll (circuit_items l.circuit)))
    × (l.all.coins + all_coins_of l.cursor.left ≡ all_coins_of (unroll (circuit_items l.circuit)))

abbrev pub decreases-steps : goal.decreases-steps
decreases-steps l = length l.cursor.left

use Rattle.stab_commands.proofs.Names.{◌≡◌, ◌+◌, length, unroll, circuit_items, steps_before_bit}
use Rattle.stab_commands.proofs.faults.first_step.Given as goal

abbrev pub invariant-steps : goal.invariant-steps
invariant-steps l = record {
  count : l.number + length l.cursor.left ≡ length (unroll (circuit_items l.circuit));
  front : l.number + length (steps_before_bit l.sought l.cursor.left) ≡ length (steps_before_bit l.fn.bit (unroll (circuit_items l.circuit)));
}

abbrev pub decreases-steps : goal.decreases-steps
decreases-steps l = length l.cursor.left

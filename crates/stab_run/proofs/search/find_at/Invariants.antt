use Rattle.stab_run.proofs.Names.{◌≡◌, ◌+◌, ◌-◌, ◌<◌, ◌≤◌, length, drop, unroll, circuit_items}
use Rattle.stab_run.proofs.search.find_at.Given as goal

abbrev pub invariant-seeking : goal.invariant-seeking
invariant-seeking l = record {
  some : 0 < l.round;
  within : l.first + l.round ≤ length (unroll (circuit_items l.circuit));
  left : l.cursor.left ≡ drop (l.first + l.round) (unroll (circuit_items l.circuit));
}

abbrev pub decreases-seeking : goal.decreases-seeking
decreases-seeking l = 4096 - l.passed

use Rattle.stab_session.proofs.Names.{◌≡◌, ◌+◌, ◌≤◌, length, drop}
use Rattle.stab_session.proofs.past_sites.skip_steps.Given as goal

abbrev pub invariant-loop-left : goal.invariant-loop-left
invariant-loop-left l = record {
  all : l.cursor.all ≡ l.initial.cursor.all;
  left : drop l.left l.cursor.left ≡ drop l.count l.initial.cursor.left;
  within : l.left ≤ l.count;
  gone : length l.cursor.left + l.count ≡ length l.initial.cursor.left + l.left;
}

abbrev pub decreases-loop-left : goal.decreases-loop-left
decreases-loop-left l = l.left

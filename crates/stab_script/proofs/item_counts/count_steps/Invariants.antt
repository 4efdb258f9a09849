use Rattle.stab_script.proofs.Names.{◌≡◌, ◌+◌, take, drop, counts_of, counts_added, IsOfSteps}
use Rattle.stab_script.proofs.item_counts.count_steps.Given as goal

abbrev pub invariant-steps : goal.invariant-steps
invariant-steps l = record {
  counted : counts_added l.counts (counts_of (take l.left l.cursor.left)) ≡ counts_of (take l.fn.most l.fn.cursor.left);
  rest : drop l.left l.cursor.left ≡ drop l.fn.most l.fn.cursor.left;
  room : l.counts.steps + l.left ≡ l.fn.most;
  of_steps : IsOfSteps l.counts;
}

abbrev pub decreases-steps : goal.decreases-steps
decreases-steps l = l.left

use Rattle.stab_run.proofs.Names.{◌≡◌, ◌≤◌, ◌-◌, ◌++◌, length, take, steps_shown}
use Rattle.stab_run.proofs.alike.goes_over.Given as goal

abbrev pub invariant-going : goal.invariant-going
invariant-going l = record {
  all : l.cursor.all ≡ l.fn.cursor.all;
  few : l.done ≤ length (steps_shown l.steps);
  same : l.fn.cursor.left ≡ take l.done (steps_shown l.steps) ++ l.cursor.left;
}

abbrev pub decreases-going : goal.decreases-going
decreases-going l = length (steps_shown l.steps) - l.done

use Rattle.stab_run.proofs.Names.{◌≡◌, ◌≤◌, ◌-◌, All, take, drop, LooksWithin}
use Rattle.stab_run.proofs.window.window_of.Given as goal

abbrev pub invariant-looking : goal.invariant-looking
invariant-looking l = record {
  few : l.done ≤ l.count;
  left : l.cursor.left ≡ drop l.done l.fn.cursor.left;
  within : All (LooksWithin l.window) (take l.done l.fn.cursor.left);
}

abbrev pub decreases-looking : goal.decreases-looking
decreases-looking l = l.count - l.done

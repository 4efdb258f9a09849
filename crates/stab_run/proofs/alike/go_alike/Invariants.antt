use Rattle.stab_run.proofs.Names.{◌≡◌, ◌-◌, ◌≤◌, take, drop}
use Rattle.stab_run.proofs.alike.go_alike.Given as goal

abbrev pub invariant-comparing : goal.invariant-comparing
invariant-comparing l = record {
  most : l.done ≤ l.count;
  near : l.near.left ≡ drop l.done l.fn.near.left;
  far : l.far.left ≡ drop l.done l.fn.far.left;
  same : take l.done l.fn.near.left ≡ take l.done l.fn.far.left;
}

abbrev pub decreases-comparing : goal.decreases-comparing
decreases-comparing l = l.count - l.done

use Rattle.stab_run.proofs.Names.{◌≡◌, ◌≤◌, length, take, drop}
use Rattle.stab_run.proofs.alike.count_same.Given as goal

abbrev pub invariant-comparing : goal.invariant-comparing
invariant-comparing l = record {
  few : l.count ≤ length l.fn.near.left;
  within : l.count ≤ length l.fn.far.left;
  near : l.near.left ≡ drop l.count l.fn.near.left;
  far : l.far.left ≡ drop l.count l.fn.far.left;
  same : take l.count l.fn.near.left ≡ take l.count l.fn.far.left;
}

abbrev pub decreases-comparing : goal.decreases-comparing
decreases-comparing l = length l.near.left

use Rattle.stab_ways.proofs.Names.{◌≡◌, ◌+◌, ◌-◌, ◌≤◌, length, take, drop}
use Rattle.stab_items.specs.Steps.{steps_of}
use Rattle.stab_ways.specs.inner.Walks.{passed}
use Rattle.stab_ways.proofs.walk.pass.Given as goal

abbrev pub invariant-steps : goal.invariant-steps
invariant-steps l = record {
  order : l.from ≤ l.position;
  within : l.position ≤ l.to;
  counted : l.by_frame ≡ l.initial.by_frame + (l.position - l.from);
  size : length l.propagation.letters ≡ length l.initial.propagation.letters;
  passed : l.propagation ≡ passed (length l.initial.propagation.letters) (take (l.position - l.from) (drop l.from (steps_of l.kind))) l.initial.propagation;
}

abbrev pub decreases-steps : goal.decreases-steps
decreases-steps l = l.to - l.position

use Rattle.stab_items.proofs.Names.{◌≡◌, ◌≤◌, ◌+◌, length, take, drop, listed, unroll, AreStretches}
use Rattle.stab_items.proofs.circuit.Circuit.position_before.Given as goal

abbrev pub invariant-stretches : goal.invariant-stretches
invariant-stretches l = record {
  within : l.position ≤ length l.self;
  are : AreStretches (drop l.number l.parts) (drop l.position l.self);
  steps : length (unroll (listed (take l.position l.self))) + l.left ≡ l.step;
}

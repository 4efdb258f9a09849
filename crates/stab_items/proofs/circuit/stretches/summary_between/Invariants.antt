use Rattle.stab_items.proofs.Names.{◌≤◌, length, take, drop, listed, IsSumOf, AreStretches}
use Rattle.stab_items.proofs.circuit.stretches.summary_between.Given as goal

abbrev pub invariant-stretches : goal.invariant-stretches
invariant-stretches l = record {
  within : l.position ≤ length l.items;
  are : AreStretches (drop l.number l.stretches) (drop l.position l.items);
  sum : IsSumOf (listed (drop l.first (take l.position l.front))) l.all;
}

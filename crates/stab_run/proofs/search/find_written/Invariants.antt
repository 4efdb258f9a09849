use Rattle.stab_run.proofs.Names.{◌-◌, ◌≤◌, length, unroll, circuit_items}
use Rattle.stab_run.proofs.SearchLemmas.{AreRepeatsTo}
use Rattle.stab_run.proofs.search.find_written.Given as goal

abbrev pub invariant-finding : goal.invariant-finding
invariant-finding l = record {
  within : l.first ≤ length (unroll (circuit_items l.circuit));
  are : AreRepeatsTo 0 l.first (unroll (circuit_items l.circuit)) l.repeats.items;
}

abbrev pub decreases-finding : goal.decreases-finding
decreases-finding l = length (unroll (circuit_items l.circuit)) - l.first

use Rattle.stab_commands.proofs.Names.{◌≡◌, ℕ, ◌<◌, ◌≤◌, ◌-◌, length, circuit_items, bits_in, numbers_where, decides, rows_listed}
use Rattle.stab_commands.proofs.deciders.list_batches.Given as goal

abbrev pub invariant-loop-first : goal.invariant-loop-first
invariant-loop-first g l = record {
  within : l.first ≤ l.coins;
  size : length l.lists.items ≡ bits_in (circuit_items l.circuit);
  listed_so_far : (i : ℕ) → i < bits_in (circuit_items l.circuit) → rows_listed l.lists.items i ≡ numbers_where (decides (circuit_items l.circuit) i) 0 l.first;
}

abbrev pub decreases-loop-first : goal.decreases-loop-first
decreases-loop-first g l = l.coins - l.first

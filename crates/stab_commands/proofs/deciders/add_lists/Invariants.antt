use Rattle.stab_commands.proofs.Names.{◌≡◌, ◌+◌, ℕ, length, rows_listed}
use Rattle.stab_commands.proofs.deciders.add_lists.Given as goal

abbrev pub invariant-loop-number : goal.invariant-loop-number
invariant-loop-number l = record {
  size : length l.lists.items ≡ length l.initial.lists.items + l.number;
  same : (i : ℕ) → rows_listed l.lists.items i ≡ rows_listed l.initial.lists.items i;
}

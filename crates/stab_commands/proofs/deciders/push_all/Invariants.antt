use Rattle.stab_commands.proofs.Names.{◌≡◌, ℕ, ◌<◌, ◌≤◌, ◌++◌, length, rows_listed, ones_at}
use Rattle.stab_commands.proofs.deciders.push_all.Given as goal

abbrev pub invariant-loop-bit : goal.invariant-loop-bit
invariant-loop-bit g l = record {
  size : length l.lists.items ≡ length l.words;
  before : (i : ℕ) → i < l.bit → rows_listed l.lists.items i ≡ rows_listed l.initial.lists.items i ++ ones_at g.W.Word.at l.words i l.first l.end;
  rest : (i : ℕ) → l.bit ≤ i → rows_listed l.lists.items i ≡ rows_listed l.initial.lists.items i;
}

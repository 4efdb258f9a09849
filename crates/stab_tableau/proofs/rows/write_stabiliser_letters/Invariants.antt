use Rattle.stab_tableau.proofs.Names.{◌≡◌, ℕ, ◌*◌, ◌<◌, ◌≤◌, false, length, get_or, I, Z, column}
use Rattle.stab_tableau.proofs.rows.write_stabiliser_letters.Given as goal

abbrev pub invariant-loop-group : goal.invariant-loop-group
invariant-loop-group l = record {
  same : l.table ≡ l.fn.table;
  size : length l.out.letters ≡ length l.fn.table;
  sign : l.out.negative ≡ false;
  written : (q : ℕ) → q < 32 * l.group → q < length l.fn.table → get_or l.out.letters q I ≡ get_or (column Z l.k l.fn.table) q I;
  unwritten : (q : ℕ) → 32 * l.group ≤ q → get_or l.out.letters q I ≡ I;
}

use Rattle.stab_regions.proofs.Names.{◌≡◌, ◌≤◌, ◌++◌, length, take, drop, Rises, ends_retained}
use Rattle.stab_regions.proofs.single_error_rows.move_ends.Given as goal

abbrev pub invariant-rows : goal.invariant-rows
invariant-rows l = record {
  counted : l.count ≤ l.begin;
  within : l.begin ≤ length l.numbers;
  rises : Rises l.begin (drop l.k l.ends) (length l.numbers);
  ends : take l.k l.ends ++ ends_retained l.retained l.count l.begin (drop l.k l.ends) (drop l.begin l.numbers) ≡ ends_retained l.retained 0 0 l.initial.ends l.numbers;
}

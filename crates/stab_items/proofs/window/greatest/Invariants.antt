use Rattle.stab_items.proofs.Names.{◌≡◌, ◌≤◌, false, nat_lt, take, list_any}
use Rattle.stab_items.proofs.window.greatest.Given as goal

abbrev pub invariant-loop-number : goal.invariant-loop-number
invariant-loop-number l = record {
  more : l.least ≤ l.greatest;
  within : list_any (nat_lt l.greatest) (take l.number-index l.numbers) ≡ false;
}

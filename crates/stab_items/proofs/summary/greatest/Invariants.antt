use Rattle.stab_items.proofs.Names.{◌≡◌, max, drop, greatest}
use Rattle.stab_items.proofs.summary.greatest.Given as goal

abbrev pub invariant-loop-number : goal.invariant-loop-number
invariant-loop-number l = max l.greatest (greatest (drop l.number-index l.numbers)) ≡ greatest l.numbers

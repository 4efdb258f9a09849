use Rattle.stab_search.proofs.Names.{ℕ, ◌<◌, row, AreRowsOf, HasRow}
use Rattle.stab_search.proofs.distinct.rows_in_order.Given as goal

abbrev pub invariant-ordered : goal.invariant-ordered
invariant-ordered l = AreRowsOf l.rows l.distinct.rows.items l.distinct.numbers.items

abbrev pub invariant-all : goal.invariant-all
invariant-all l = record {
  rows : AreRowsOf l.rows l.distinct.rows.items l.distinct.numbers.items;
  there : (q : ℕ) → q < l.r → HasRow l.distinct.rows.items (row l.rows q);
}

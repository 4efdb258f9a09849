use Rattle.stab_search.proofs.Names.{◌≡◌, ℕ, ◌<◌, [], ◌∷◌, length, row, HasNoneWithin, NoEnds}
use Rattle.stab_search.specs.SearchParts.{BeginsIn}
use Rattle.stab_search.proofs.sizes.of_one_more.Given as goal

abbrev pub invariant-firsts : goal.invariant-firsts
invariant-firsts l = record {
  cover : length l.cover.items ≡ length l.errors.table.rows;
  tried : (f : ℕ) → f < l.first → BeginsIn l.part (f ∷ []) → HasNoneWithin l.errors.table l.left → NoEnds l.errors.table l.errors.pairs f (f ∷ []) (row l.errors.table.rows f) l.left;
}

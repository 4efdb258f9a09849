use Rattle.stab_search.proofs.Names.{ℕ, ◌≤◌, ◌<◌, HearsOn}
use Rattle.stab_search.specs.SearchParts.{HasNoneIn}
use Rattle.stab_search.proofs.sizes.first_in_part.Given as goal

abbrev pub invariant-sizes : goal.invariant-sizes
invariant-sizes g l = record {
  order : l.from ≤ l.left;
  within : l.left ≤ l.most;
  none : (size : ℕ) → l.from < size → size ≤ l.left → HasNoneIn l.part (record { table = l.errors.table; firsts = l.errors.firsts }) size;
  heard : HearsOn l.from l.left (g.P.Progress.heard l.initial.progress) (g.P.Progress.heard l.progress);
}

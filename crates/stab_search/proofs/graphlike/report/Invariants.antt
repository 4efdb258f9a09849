use Rattle.stab_search.proofs.Names.{◌≤◌, HearsOn}
use Rattle.stab_search.proofs.graphlike.report.Given as goal

abbrev pub invariant-sizes : goal.invariant-sizes
invariant-sizes g l = record {
  within : l.k ≤ l.last;
  heard : HearsOn 0 l.k (g.P.Progress.heard l.initial.progress) (g.P.Progress.heard l.progress);
}

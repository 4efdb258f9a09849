use Rattle.stab_search.proofs.Names.{◌≡◌, ℕ, ◌<◌, length, row, IsEdge, edge}
use Rattle.stab_search.proofs.edges.edges_of.Given as goal

abbrev pub invariant-rows : goal.invariant-rows
invariant-rows l = record {
  made : length l.edges.items ≡ l.r;
  each : (q : ℕ) → q < l.r → IsEdge l.detectors (row l.rows q) (edge l.edges.items q);
}

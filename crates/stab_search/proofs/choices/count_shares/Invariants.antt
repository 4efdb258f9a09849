use Rattle.stab_search.proofs.Names.{◌≡◌, ℕ, ◌<◌, ◌≤◌, length, take, slice_index, shares}
use Rattle.stab_search.proofs.choices.count_shares.Given as goal

abbrev pub invariant-loop-position : goal.invariant-loop-position
invariant-loop-position l = record {
  covers : (e : ℕ) → e < length l.errors.table.rows → 0 < slice_index l.weights e → shares l.errors.table.rows e (take l.position l.detectors) ≤ slice_index l.cover e;
  length : length l.cover ≡ length l.errors.table.rows;
}

use Rattle.stab_search.proofs.Names.{ℕ, ◌-◌, ◌<◌, ◌≤◌, length, get_or}
use Rattle.stab_search.proofs.sets.toggle_row.Given as goal

abbrev pub invariant-pass : goal.invariant-pass
invariant-pass l = record {
  within : l.position ≤ length l.set.items;
  passed : (k : ℕ) → k < l.position → get_or l.set.items k 0 < l.r;
}

abbrev pub decreases-pass : goal.decreases-pass
decreases-pass l = length l.set.items - l.position

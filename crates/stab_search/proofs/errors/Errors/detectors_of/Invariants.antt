use Rattle.stab_search.proofs.Names.{◌<◌, ◌≤◌, ◌-◌, length, take, ForEach}
use Rattle.stab_search.proofs.errors.Errors.detectors_of.Given as goal

abbrev pub invariant-detectors : goal.invariant-detectors
invariant-detectors l = record {
  within : l.count ≤ length l.flipped;
  inside : ForEach (λ d. d < l.self.table.detectors) (take l.count l.flipped);
}

abbrev pub decreases-detectors : goal.decreases-detectors
decreases-detectors l = length l.flipped - l.count

use Rattle.stab_regions.proofs.Names.{◌≡◌, ◌≤◌, length, drop, map, step_shown, GoesBefore, IsSwept}
use Rattle.stab_regions.proofs.sweep.Sweep.before_all.Given as goal

abbrev pub invariant-steps : goal.invariant-steps
invariant-steps l = record {
  within : l.left ≤ length l.steps;
  numbered : l.self.walk.numbered ≡ l.initial.self.walk.numbered;
  passes : GoesBefore (map step_shown (drop l.left l.steps)) (IsSwept l.asked l.initial.self) (IsSwept l.asked l.self);
}

abbrev pub decreases-steps : goal.decreases-steps
decreases-steps l = l.left

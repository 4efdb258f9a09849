use Rattle.stab_items.proofs.Names.{◌≤◌, All, map, take, detector, lookbacks_of, LooksWithin}
use Rattle.stab_items.proofs.window.furthest_detector.Given as goal

abbrev pub invariant-loop-position : goal.invariant-loop-position
invariant-loop-position l = record {
  more : l.least ≤ l.window;
  within : All (LooksWithin l.window) (map detector (take l.position (lookbacks_of l.detectors)));
}

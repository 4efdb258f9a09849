use Rattle.stab_items.proofs.Names.{◌≡◌, true, take, list_all, detects}
use Rattle.stab_items.proofs.detectors.count_at_front.Given as goal

abbrev pub invariant-loop-position : goal.invariant-loop-position
invariant-loop-position l = list_all detects (take l.position l.items) ≡ true

use Rattle.stab_search.proofs.Names.{◌≡◌, true, has}
use Rattle.stab_search.proofs.covers.seldom.Given as goal

abbrev pub invariant-loop-d : goal.invariant-loop-d
invariant-loop-d l = has l.best l.detectors ≡ true

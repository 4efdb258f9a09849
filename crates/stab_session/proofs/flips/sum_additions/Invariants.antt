use Rattle.stab_session.proofs.Names.{◌≡◌, false, drop, length, replicate, with_additions}
use Rattle.stab_session.proofs.flips.sum_additions.Given as goal

abbrev pub invariant-loop-addition : goal.invariant-loop-addition
invariant-loop-addition l = with_additions (drop l.addition-index l.additions) l.observables.items ≡ with_additions l.additions (replicate (length l.initial.observables.items) false)

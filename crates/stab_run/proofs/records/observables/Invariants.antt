use Rattle.stab_run.proofs.Names.{◌≡◌, drop, replicate, false, with_additions}
use Rattle.stab_run.proofs.records.observables.Given as goal

abbrev pub invariant-loop-addition : goal.invariant-loop-addition
invariant-loop-addition l = with_additions (drop l.addition-index l.additions) l.observables.items ≡ with_additions l.additions (replicate l.count false)

use Rattle.stab_run.proofs.Names.{◌≡◌, drop, ◌⊕◌, parity}
use Rattle.stab_run.proofs.records.parity.Given as goal

abbrev pub invariant-loop-k : goal.invariant-loop-k
invariant-loop-k l = l.parity ⊕ parity l.records (drop l.k-index l.lookbacks) ≡ parity l.records l.lookbacks

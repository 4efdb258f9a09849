use Rattle.stab_ways.proofs.Names.{◌≡◌, ℕ, ◌<◌, take}
use Rattle.stab_run.specs.Records.{looked_up}
use Rattle.stab_ways.proofs.folds.same_records.Given as goal

abbrev pub invariant-loop-k : goal.invariant-loop-k
invariant-loop-k l = (k : ℕ) → k < l.k → looked_up (take l.count l.records) k ≡ looked_up l.records k

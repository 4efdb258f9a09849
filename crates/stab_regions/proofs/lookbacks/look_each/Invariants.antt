use Rattle.stab_regions.proofs.Names.{◌≢◌, ℕ, List, ◌++◌, take, ShowsLooks}
use Rattle.stab_regions.proofs.lookbacks.look_each.Given as goal

abbrev pub invariant-loop-k : goal.invariant-loop-k
invariant-loop-k l = record {
  own : (looks : List ℕ) → ShowsLooks l.parity l.initial.records.items looks → ShowsLooks l.parity l.records.items (take l.k-index l.lookbacks ++ looks);
  others : (i : ℕ) (looks : List ℕ) → i ≢ l.parity → ShowsLooks i l.initial.records.items looks → ShowsLooks i l.records.items looks;
}

use Rattle.stab_circuit.proofs.Names.{◌≡◌, ◌≤◌, ◌-◌, length, take, All, each, words, IsLookback, lookback_of}
use Rattle.stab_circuit.proofs.ResultLemmas.{following}
use Rattle.stab_circuit.proofs.detector.short_records.Given as goal

abbrev pub invariant-loop-count : goal.invariant-loop-count
invariant-loop-count l = record {
  long : length l.found ≡ 2;
  room : l.count ≤ 2;
  in_range : All IsLookback (take l.count l.found);
  preserved : following (take l.count l.found) (each lookback_of (words l.rest)) ≡ each lookback_of (words l.words_text);
}

abbrev pub decreases-loop-count : goal.decreases-loop-count
decreases-loop-count l = 2 - l.count

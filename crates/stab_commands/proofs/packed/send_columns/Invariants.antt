use Rattle.stab_commands.proofs.Names.{◌≡◌, ℕ, ◌+◌, ◌-◌, ◌%◌, ◌<◌, ◌≤◌, List, length, Took, word_bit, lane_bits, of_shots, f01_bytes}
use Rattle.stab_commands.proofs.packed.send_columns.Given as goal

abbrev pub invariant-loop-sent : goal.invariant-loop-sent
invariant-loop-sent g l = record {
  within : l.sent ≤ l.lanes;
  whole : l.sent < l.lanes → l.sent % 8 ≡ 0;
  size : length l.column.items ≡ length l.words;
  took : (first : ℕ) (bytes_of : ℕ → List ℕ) → ((k : ℕ) → k < l.lanes → f01_bytes (lane_bits word_bit k l.words) ≡ bytes_of (first + k))
      → Took (g.O.Output.seen l.initial.out) (g.O.Output.seen l.out) (of_shots bytes_of first l.sent);
}

abbrev pub decreases-loop-sent : goal.decreases-loop-sent
decreases-loop-sent g l = l.lanes - l.sent

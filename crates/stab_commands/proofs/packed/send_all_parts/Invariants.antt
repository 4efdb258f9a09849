use Rattle.stab_commands.proofs.Names.{◌≡◌, ℕ, ◌+◌, ◌-◌, ◌%◌, ◌<◌, ◌≤◌, List, length, Took, lane_bits, of_shots, packed_bytes}
use Rattle.stab_commands.proofs.packed.send_all_parts.Given as goal

abbrev pub invariant-loop-sent : goal.invariant-loop-sent
invariant-loop-sent g l = record {
  within : l.sent ≤ l.lanes;
  whole : l.sent < l.lanes → l.sent % 128 ≡ 0;
  size : length l.one.items ≡ length l.words;
  second_size : length l.two.items ≡ length l.words;
  took : (first : ℕ) (bytes_of : ℕ → List ℕ) → ((k : ℕ) → k < l.lanes → packed_bytes l.packing (lane_bits g.W.Word.at k l.words) ≡ bytes_of (first + k))
      → Took (g.O.Output.seen l.initial.out) (g.O.Output.seen l.out) (of_shots bytes_of first l.sent);
}

abbrev pub decreases-loop-sent : goal.decreases-loop-sent
decreases-loop-sent g l = l.lanes - l.sent

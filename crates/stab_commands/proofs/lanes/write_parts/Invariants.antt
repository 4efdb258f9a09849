use Rattle.stab_commands.proofs.Names.{◌≡◌, ℕ, ◌+◌, ◌-◌, ◌%◌, ◌<◌, ◌≤◌, length, Took, State, lane_bits, Shown, of_shots, IsShown, shown_bytes}
use Rattle.stab_commands.proofs.lanes.write_parts.Given as goal

abbrev pub invariant-loop-sent : goal.invariant-loop-sent
invariant-loop-sent g l = record {
  within : l.sent ≤ l.lanes;
  whole : l.sent < l.lanes → l.sent % 64 ≡ 0;
  size : length l.part.items ≡ length l.words;
  took : (first : ℕ) (shown : Shown) (run : ℕ → State) → ((k : ℕ) → k < l.lanes → IsShown shown (run (first + k)) l.kinds (lane_bits g.W.Word.at k l.words))
      → Took (g.O.Output.seen l.initial.out) (g.O.Output.seen l.out) (of_shots (λ shot. shown_bytes l.format shown (run shot)) first l.sent);
}

abbrev pub decreases-loop-sent : goal.decreases-loop-sent
decreases-loop-sent g l = l.lanes - l.sent

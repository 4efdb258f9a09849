use Rattle.stab_commands.proofs.Names.{ℕ, ◌+◌, ◌<◌, Took, State, word_bit, lane_bits, Shown, of_shots, IsShown, shown_bytes}
use Rattle.stab_commands.proofs.lanes.write_lanes.Given as goal

abbrev pub invariant-loop-lane : goal.invariant-loop-lane
invariant-loop-lane g l =
    (first : ℕ) (shown : Shown) (run : ℕ → State) →
    ((lane : ℕ) → lane < l.lanes → IsShown shown (run (first + lane)) l.kinds (lane_bits word_bit lane l.words)) →
    Took (g.O.Output.seen l.initial.out) (g.O.Output.seen l.out) (of_shots (λ shot. shown_bytes l.format shown (run shot)) first l.lane)

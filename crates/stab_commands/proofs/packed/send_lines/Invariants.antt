use Rattle.stab_commands.proofs.Names.{◌≡◌, ℕ, ◌+◌, ◌<◌, List, length, Took, f01_bytes, word_bit, lane_bits, of_shots}
use Rattle.stab_commands.proofs.packed.send_lines.Given as goal

abbrev pub invariant-loop-lane : goal.invariant-loop-lane
invariant-loop-lane g l =
    (length l.text.items ≡ length l.column + 1)
    × ((first : ℕ) (bytes_of : ℕ → List ℕ) → ((k : ℕ) → k < l.lanes → f01_bytes (lane_bits word_bit k l.column) ≡ bytes_of (first + k))
    → Took (g.O.Output.seen l.initial.out) (g.O.Output.seen l.out) (of_shots bytes_of first l.lane))

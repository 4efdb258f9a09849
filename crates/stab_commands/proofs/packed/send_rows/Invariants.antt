use Rattle.stab_commands.proofs.Names.{◌≡◌, ℕ, ◌+◌, ◌*◌, ◌<◌, List, length, take, Took, row_bytes, of_shots}
use Rattle.stab_commands.proofs.packed.send_rows.Given as goal

abbrev pub invariant-loop-lane : goal.invariant-loop-lane
invariant-loop-lane g l =
    (length l.bytes.items ≡ 8 * length l.blocks)
    × ((first : ℕ) (bytes_of : ℕ → List ℕ) → ((k : ℕ) → k < l.lanes → take l.count (row_bytes k l.blocks) ≡ bytes_of (first + k))
    → Took (g.O.Output.seen l.initial.out) (g.O.Output.seen l.out) (of_shots bytes_of first l.lane))

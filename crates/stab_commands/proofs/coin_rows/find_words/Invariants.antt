use Rattle.stab_commands.proofs.Names.{◌≡◌, ℕ, ◌+◌, ◌*◌, ◌<◌, take, one_positions, lane_bits, positions_in}
use Rattle.stab_commands.proofs.coin_rows.find_words.Given as goal

abbrev pub invariant-loop-position : goal.invariant-loop-position
invariant-loop-position g l = (k : ℕ) → k < 64 → positions_in k l.found.items ≡ one_positions (take l.position (lane_bits g.W.Word.at (64 * l.part + k) l.words))

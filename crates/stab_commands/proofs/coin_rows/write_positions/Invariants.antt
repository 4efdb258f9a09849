use Rattle.stab_commands.proofs.Names.{◌≡◌, take, positions_in}
use Rattle.stab_commands.proofs.coin_rows.write_positions.Given as goal

abbrev pub invariant-loop-word : goal.invariant-loop-word
invariant-loop-word l = l.positions.items ≡ positions_in l.lane (take l.word-index l.found)

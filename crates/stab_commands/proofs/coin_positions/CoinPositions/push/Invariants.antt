use Rattle.stab_commands.proofs.Names.{◌≡◌, ◌++◌, take, drop, one_positions_from}
use Rattle.stab_commands.proofs.coin_positions.CoinPositions.push.Given as goal

abbrev pub invariant-loop-taken : goal.invariant-loop-taken
invariant-loop-taken l = record {
  numbers : l.self.numbers.items ≡ l.initial.self.numbers.items ++ one_positions_from l.coin (take l.taken (drop l.coin l.free));
  steps : l.self.steps.items ≡ l.initial.self.steps.items ++ one_positions_from l.number (take l.taken (drop l.coin l.free));
}

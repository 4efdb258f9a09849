use Rattle.stab_frames.proofs.Names.{◌≡◌, ◌+◌, length, map, take, measured, AsksRandom, GoesOver}
use Rattle.stab_frames.proofs.instruction.propagate_each_measurement.Given as goal

abbrev pub invariant-loop-target : goal.invariant-loop-target
invariant-loop-target g l = record {
  count : l.count ≡ l.target-index;
  same_coins : g.C.Coins.sequence l.coins ≡ g.C.Coins.sequence l.initial.coins;
  coin : l.propagation.coin ≡ l.initial.propagation.coin + l.target-index;
  asks : AsksRandom l.known.free.now l.initial.propagation.coin l.propagation.coin (g.C.Coins.asks l.initial.coins) (g.C.Coins.asks l.coins);
  goes : GoesOver (length l.initial.propagation.letters) l.known.strings.now.strings l.known.free.now (g.D.Draw.changes l.known.draw.now (g.C.Coins.sequence l.initial.coins))
      (map (measured l.fn.measurement) (take l.target-index l.targets)) l.initial.propagation l.propagation;
}

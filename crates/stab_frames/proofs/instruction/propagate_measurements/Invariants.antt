use Rattle.stab_frames.proofs.Names.{◌≡◌, ◌≤◌, ◌-◌, ◌+◌, length, map, take, measured, AsksRandom, GoesOver}
use Rattle.stab_frames.proofs.instruction.propagate_measurements.Given as goal

abbrev pub invariant-loop-done : goal.invariant-loop-done
invariant-loop-done g l = record {
  within : l.done ≤ length l.targets;
  same_coins : g.C.Coins.sequence l.coins ≡ g.C.Coins.sequence l.initial.coins;
  coin : l.propagation.coin ≡ l.initial.propagation.coin + l.done;
  asks : AsksRandom l.known.free.now l.initial.propagation.coin l.propagation.coin (g.C.Coins.asks l.initial.coins) (g.C.Coins.asks l.coins);
  goes : GoesOver (length l.initial.propagation.letters) l.known.strings.now.strings l.known.free.now (g.D.Draw.changes l.known.draw.now (g.C.Coins.sequence l.initial.coins))
      (map (measured l.measurement) (take l.done l.targets)) l.initial.propagation l.propagation;
}

abbrev pub decreases-loop-done : goal.decreases-loop-done
decreases-loop-done g l = length l.targets - l.done

use Rattle.stab_recording.proofs.Names.{◌≡◌, ◌+◌, ◌-◌, ◌≤◌, length, take, drop, AsksRandom, GoesOver}
use Rattle.stab_recording.proofs.propagate.propagate.Given as goal

abbrev pub invariant-loop-steps : goal.invariant-loop-steps
invariant-loop-steps g l = record {
  most : l.steps ≤ l.most;
  by_frame : l.by_frame ≡ l.initial.by_frame + l.steps;
  within : l.steps ≤ length l.initial.cursor.left;
  left : l.cursor.left ≡ drop l.steps l.initial.cursor.left;
  all : l.cursor.all ≡ l.initial.cursor.all;
  same_coins : g.C.Coins.sequence l.coins ≡ g.C.Coins.sequence l.initial.coins;
  asks : AsksRandom l.known.free.now l.initial.propagation.coin l.propagation.coin (g.C.Coins.asks l.initial.coins) (g.C.Coins.asks l.coins);
  goes : GoesOver (length l.initial.propagation.letters) l.known.strings.now.strings l.known.free.now (g.D.Draw.changes l.known.draw.now (g.C.Coins.sequence l.initial.coins))
      (take l.steps l.initial.cursor.left) l.initial.propagation l.propagation;
}

abbrev pub decreases-loop-steps : goal.decreases-loop-steps
decreases-loop-steps g l = l.most - l.steps

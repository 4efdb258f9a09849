use Rattle.stab_recording.proofs.Names.{◌≡◌, IsOwnRun}
use Rattle.stab_recording.specs.FollowedRuns.{Costs}
use Rattle.stab_recording.specs.inner.Progress.{IsFurther}
use Rattle.stab_recording.proofs.replay.Replay.run_block.Given as goal

abbrev pub invariant-loop-round : goal.invariant-loop-round
invariant-loop-round g l = record {
  further : IsFurther (g.C.Coins.asks l.fn.coins) (g.C.Coins.asks l.coins) l.fn.self l.self;
  same_coins : g.C.Coins.sequence l.coins ≡ g.C.Coins.sequence l.fn.coins;
  costs : Costs (g.C.Coins.asks l.fn.coins) (g.C.Coins.asks l.coins) l.fn.self l.self;
  own : IsOwnRun l.fn.self.tableau.qubits (g.C.Coins.sequence l.fn.coins) l.fn.self.cursor.all l.self;
}

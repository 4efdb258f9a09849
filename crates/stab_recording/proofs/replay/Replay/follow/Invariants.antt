use Rattle.stab_recording.proofs.Names.{◌≡◌, ◌+◌, ◌-◌, length, IsOnWay}
use Rattle.stab_recording.specs.FollowedRuns.{Costs}
use Rattle.stab_recording.specs.inner.Progress.{IsFurther}
use Rattle.stab_recording.proofs.replay.Replay.follow.Given as goal

abbrev pub invariant-following : goal.invariant-following
invariant-following g l = record {
  further : IsFurther (g.C.Coins.asks l.initial.coins) (g.C.Coins.asks l.coins) l.initial.self l.self;
  same_coins : g.C.Coins.sequence l.coins ≡ g.C.Coins.sequence l.initial.coins;
  costs : Costs (g.C.Coins.asks l.initial.coins) (g.C.Coins.asks l.coins) l.initial.self l.self;
  way : IsOnWay l.initial.self.tableau.qubits (g.C.Coins.sequence l.initial.coins) l.initial.self.step l.plan l.initial.self.cursor.all l.old.checkpoints.now l.old.outputs.now.records.items l.next l.self;
}

abbrev pub decreases-following : goal.decreases-following
decreases-following g l = (l.plan.total - l.self.step) + (length l.old.checkpoints.now - l.next)

use Rattle.stab_recording.proofs.Names.{◌≡◌, ◌-◌, ◌≤◌}
use Rattle.stab_recording.specs.FollowedRuns.{Costs}
use Rattle.stab_recording.specs.inner.Progress.{HasCarriedOut, IsFurther}
use Rattle.stab_recording.proofs.replay.Replay.run_past.Given as goal

abbrev pub invariant-loop-self : goal.invariant-loop-self
invariant-loop-self g l = record {
  further : IsFurther (g.C.Coins.asks l.fn.coins) (g.C.Coins.asks l.coins) l.fn.self l.self;
  same_coins : g.C.Coins.sequence l.coins ≡ g.C.Coins.sequence l.fn.coins;
  costs : Costs (g.C.Coins.asks l.fn.coins) (g.C.Coins.asks l.coins) l.fn.self l.self;
  carried_out : HasCarriedOut l.fn.self.tableau.qubits (g.C.Coins.sequence l.fn.coins) l.fn.self l.self;
  before : l.self.step ≤ l.next;
  reached : l.stop ≤ l.next;
  within : l.next ≤ l.limit;
}

abbrev pub decreases-loop-self : goal.decreases-loop-self
decreases-loop-self g l = l.limit - l.next

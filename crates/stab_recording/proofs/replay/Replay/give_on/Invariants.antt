use Rattle.stab_recording.proofs.Names.{◌≡◌, ℕ, ◌+◌, ◌-◌, ◌<◌, Bool, false, List, length, Repeat, Checkpoint, Plan, with_folded, IsFolding}
use Rattle.stab_recording.specs.FollowedRuns.{Costs}
use Rattle.stab_recording.specs.inner.Progress.{IsFurther}
use Rattle.stab_recording.proofs.replay.Replay.give_on.Given as goal

abbrev pub invariant-giving : goal.invariant-giving
invariant-giving g l = record {
  in_range : l.found.number + 1 < length l.self.saved.items;
  rest : l.self ≡ with_folded l.initial.self l.self;
  further : IsFurther (g.C.Coins.asks l.initial.coins) (g.C.Coins.asks l.coins) l.initial.self l.self;
  same_coins : g.C.Coins.sequence l.coins ≡ g.C.Coins.sequence l.initial.coins;
  costs : Costs (g.C.Coins.asks l.initial.coins) (g.C.Coins.asks l.coins) l.initial.self l.self;
  way : (begin : ℕ) (p : Plan) (checkpoints : List Checkpoint) (old : List Bool) (next : ℕ) (block : Repeat)
      → IsFolding l.initial.self.tableau.qubits (g.C.Coins.sequence l.initial.coins) begin p l.initial.self.cursor.all checkpoints old next block l.end false l.initial.self l.initial.found
      → IsFolding l.initial.self.tableau.qubits (g.C.Coins.sequence l.initial.coins) begin p l.initial.self.cursor.all checkpoints old next block l.end l.passed l.self l.found;
}

abbrev pub decreases-giving : goal.decreases-giving
decreases-giving g l = l.end - l.self.step

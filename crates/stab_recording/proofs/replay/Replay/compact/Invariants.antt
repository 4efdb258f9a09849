use Rattle.stab_recording.proofs.Names.{◌≡◌}
use Rattle.stab_recording.proofs.replay.Replay.compact.Given as goal

abbrev pub invariant-loop-position : goal.invariant-loop-position
invariant-loop-position l = l.tableau ≡ l.self.tableau

use Rattle.stab_recording.proofs.Names.{◌≡◌, length}
use Rattle.stab_recording.proofs.replay.Replay.find_recurrence.Given as goal

abbrev pub invariant-looking : goal.invariant-looking
invariant-looking l = record { string : length l.string.letters ≡ l.self.tableau.qubits }

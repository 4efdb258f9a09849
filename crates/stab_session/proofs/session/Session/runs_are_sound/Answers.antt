use Rattle.stab_session.proofs.Names.{subst, circuit_items, IsSoundRun, SessionState, sound-run}
use Rattle.stab_session.proofs.session.Session.runs_are_sound.Goals as goal

pub returns : goal.returns
returns g c = (let recorded = c.self.invariant.0 in
    record {
      law = λ coins.
          subst (λ (s : SessionState g.row.C.Denot). IsSoundRun s.qubits coins s.items) c.self.view_is
          (sound-run c.self.inside.recording.tableau.qubits coins (circuit_items c.self.inside.circuit) recorded.checked recorded.distinct);
    })

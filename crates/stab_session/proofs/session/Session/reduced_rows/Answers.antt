use Rattle.stab_session.proofs.Names.{subst, IfOk, IfOk-weaker, member, stabilises, AreReduced, same-rows, circuit_items, run_of, SessionState}
use Rattle.stab_session.proofs.SessionLemmas.{recording-group}
use Rattle.stab_session.proofs.session.Session.reduced_rows.Goals as goal

pub returns-clause-reduced_of_run : goal.returns-clause-reduced_of_run
returns-clause-reduced_of_run g c =
    let n = c.self.inside.recording.tableau.qubits in
    let sequence = g.C.Coins.sequence in
    let trace = (run_of n (sequence c.self.inside.coins) (circuit_items c.self.inside.circuit)).trace in
    subst
    (λ (s : SessionState g.row.C.Denot). IfOk c.reduced_rows.result (λ rows. AreReduced s.qubits (member (run_of s.qubits (sequence s.coins) s.items).trace) rows.items))
    c.self.view_is
    (IfOk-weaker c.reduced_rows.result _ _
    (λ rows is. same-rows n (stabilises c.self.inside.recording.tableau) (member trace)
    (recording-group sequence (circuit_items c.self.inside.circuit) c.self.inside.stride c.self.inside.coins c.self.inside.recording c.self.invariant.0.run) 0 rows.items is)
    c.reduced_rows.ensures.reduced)

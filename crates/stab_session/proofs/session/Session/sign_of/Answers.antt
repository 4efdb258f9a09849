use Rattle.stab_session.proofs.Names.{◌≡◌, length, subst, member, stabilises, circuit_items, run_of, SessionState, IsSignIn}
use Rattle.stab_session.proofs.SessionLemmas.{same-sign, recording-group}
use Rattle.stab_session.proofs.session.Session.sign_of.Goals as goal

pub returns-clause-sign : goal.returns-clause-sign
returns-clause-sign g c =
    let n = c.self.inside.recording.tableau.qubits in
    let sequence = g.C.Coins.sequence in
    let trace = (run_of n (sequence c.self.inside.coins) (circuit_items c.self.inside.circuit)).trace in
    subst
    (λ (s : SessionState g.row.C.Denot). length c.args.pauli.now.letters ≡ s.qubits
    → IsSignIn (member (run_of s.qubits (sequence s.coins) s.items).trace) c.args.pauli.now c.sign_of.result)
    c.self.view_is
    (λ size. same-sign n (stabilises c.self.inside.recording.tableau) (member trace) c.args.pauli.now c.sign_of.result size
    (recording-group sequence (circuit_items c.self.inside.circuit) c.self.inside.stride c.self.inside.coins c.self.inside.recording c.self.invariant.0.run)
    (c.sign_of.ensures.some, c.sign_of.ensures.none))
    c.requires.same_length

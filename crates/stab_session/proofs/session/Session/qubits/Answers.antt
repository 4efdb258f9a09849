use Rattle.stab_session.proofs.Names.{◌≤◌, sym, subst}
use Rattle.stab_session.proofs.session.Session.qubits.Goals as goal

pub returns-clause-in_range : goal.returns-clause-in_range
returns-clause-in_range g c = subst (λ n. n ≤ 1024) (sym c.len.ensures.value) c.self.invariant.0.few

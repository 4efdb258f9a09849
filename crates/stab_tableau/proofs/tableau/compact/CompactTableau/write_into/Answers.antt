use Rattle.stab_tableau.proofs.Names.{◌≡◌, sym, ap, subst, length, arith, TableauState, InverseRows, IsOver, IsTableau}
use Rattle.stab_tableau.proofs.tableau.compact.CompactTableau.write_into.Goals as goal

pub invariant_of-tableau : goal.invariant_of-tableau
invariant_of-tableau c =
    let scratch : InverseRows = record { x = c.tableau.inside.preimage; z = c.tableau.inside.multiplier } in
    let same : length c.tableau.inside.table ≡ length c.self.inside.table =
    omega (arith, c.requires.same_qubits, ap (λ (t : TableauState). t.qubits) c.self.view_is, ap (λ (t : TableauState). t.qubits) c.tableau.view_is) in
    subst (λ rows. IsTableau (length rows) rows scratch) (sym c.write_into.ensures.value)
    (c.self.invariant scratch (subst (λ n. IsOver n scratch) same c.tableau.invariant.size))

use Rattle.stab_tableau.proofs.Names.{sym, subst, length, IsOver, IsTableau}
use Rattle.stab_tableau.proofs.tableau.Tableau.compact.Goals as goal

pub invariant_of-result : goal.invariant_of-result
invariant_of-result c scratch over =
    subst (λ t. IsOver (length t) scratch → IsTableau (length t) t scratch) (sym c.in_ok-table.ensures.ok)
    (λ o. record { table = c.self.invariant.table; onto = c.self.invariant.onto; size = o }) over

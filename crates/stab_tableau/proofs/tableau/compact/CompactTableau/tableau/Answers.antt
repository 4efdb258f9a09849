use Rattle.stab_tableau.proofs.Names.{◌≡◌, ◌∙◌, ap, sym, subst, length, length-replicate, I, Signed, InverseRows, IsOver, IsTableau}
use Rattle.stab_tableau.proofs.tableau.compact.CompactTableau.tableau.Goals as goal

pub invariant_of-tableau : goal.invariant_of-tableau
invariant_of-tableau c =
    let scratch : InverseRows = record { x = c.tableau.inside.preimage; z = c.tableau.inside.multiplier } in
    let size : length c.tableau.inside.table ≡ length c.self.inside.table = sym c.len.ensures.value ∙ c.if-len.true ∙ c.len-in-Some.ensures.value in
    subst (λ t. IsTableau (length t) t scratch) (sym c.write_into.ensures.value) (c.self.invariant scratch (subst (λ n. IsOver n scratch) size c.tableau.invariant.size))

pub invariant_of-result : goal.invariant_of-result
invariant_of-result c =
    let scratch : InverseRows = record { x = c.in_ok-preimage.preimage; z = c.in_ok-multiplier.multiplier } in
    subst (λ t. IsTableau (length t) t scratch) (sym c.in_ok-table.ensures.ok)
    (c.self.invariant scratch (record {
      x = ap (λ (p : Signed). length p.letters) c.in_ok-preimage.ensures.ok ∙ length-replicate c.len-2.result I ∙ c.len-2.ensures.value ∙ ap length c.in_ok-table.ensures.ok;
      z = ap (λ (p : Signed). length p.letters) c.in_ok-multiplier.ensures.ok ∙ length-replicate c.len-3.result I ∙ c.len-3.ensures.value ∙ ap length c.in_ok-table.ensures.ok;
    }))

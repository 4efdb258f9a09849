use Rattle.stab_tableau.proofs.Names.{◌∙◌, refl, length, anticommute, product, product_times_i, phased_product-times_phase, OfX, OfZ, Cx, Cy, Cz, Swap, rows_at}
use Rattle.stab_tableau.proofs.PairRowLemmas.{back_x, back_z, mid_opposed, rows-cx, rows-cy, rows-cz, rows-swap, begin, first-read, second-read, first-step, second-step, exchange-step, is-pair_gated}
use Rattle.stab_tableau.proofs.inverse_rows.apply_pair.Goals as goal

pub multiply-requires-in-Cx-clause-commuting : goal.multiply-requires-in-Cx-clause-commuting
multiply-requires-in-Cx-clause-commuting c =
    let e = first-step c.args.table.now c.args.first c.args.second c.requires.first_in_range c.requires.second_in_range c.requires.distinct _ _ _ (begin c.args.table.now c.args.first c.args.second c.requires.first_in_range c.requires.second_in_range c.requires.distinct) OfX (λ r s. product r.x s.x) c.multiply.new.self c.multiply.ensures.value in
    (λ i. anticommute (second-read c.args.table.now c.args.first c.args.second c.requires.first_in_range c.requires.second_in_range c.requires.distinct _ _ _ e i).z (first-read c.args.table.now c.args.first c.args.second c.requires.first_in_range c.requires.second_in_range c.requires.distinct _ _ _ e i).z)
    ∙ back_z (length c.args.table.now) (rows_at c.args.table.now c.args.first) (rows_at c.args.table.now c.args.second) c.requires.rows

pub multiply_times_i-requires-clause-anticommuting : goal.multiply_times_i-requires-clause-anticommuting
multiply_times_i-requires-clause-anticommuting c =
    let e1 = first-step c.args.table.now c.args.first c.args.second c.requires.first_in_range c.requires.second_in_range c.requires.distinct _ _ _ (begin c.args.table.now c.args.first c.args.second c.requires.first_in_range c.requires.second_in_range c.requires.distinct) OfX (λ r s. product r.x s.x) c.multiply-in-Cy.new.self c.multiply-in-Cy.ensures.value in
    (λ i. anticommute (first-read c.args.table.now c.args.first c.args.second c.requires.first_in_range c.requires.second_in_range c.requires.distinct _ _ _ e1 i).x (second-read c.args.table.now c.args.first c.args.second c.requires.first_in_range c.requires.second_in_range c.requires.distinct _ _ _ e1 i).z)
    ∙ mid_opposed (length c.args.table.now) (rows_at c.args.table.now c.args.first) (rows_at c.args.table.now c.args.second) c.requires.rows _ refl

pub multiply-requires-in-Cy-2-clause-commuting : goal.multiply-requires-in-Cy-2-clause-commuting
multiply-requires-in-Cy-2-clause-commuting c =
    let e1 = first-step c.args.table.now c.args.first c.args.second c.requires.first_in_range c.requires.second_in_range c.requires.distinct _ _ _ (begin c.args.table.now c.args.first c.args.second c.requires.first_in_range c.requires.second_in_range c.requires.distinct) OfX (λ r s. product r.x s.x) c.multiply-in-Cy.new.self c.multiply-in-Cy.ensures.value in
    let e2 = first-step c.args.table.now c.args.first c.args.second c.requires.first_in_range c.requires.second_in_range c.requires.distinct _ _ _ e1 OfX (λ r s. product_times_i r.x s.z) c.multiply_times_i.new.self c.multiply_times_i.ensures.value in
    (λ i. anticommute (second-read c.args.table.now c.args.first c.args.second c.requires.first_in_range c.requires.second_in_range c.requires.distinct _ _ _ e2 i).x (first-read c.args.table.now c.args.first c.args.second c.requires.first_in_range c.requires.second_in_range c.requires.distinct _ _ _ e2 i).z)
    ∙ back_x (length c.args.table.now) (rows_at c.args.table.now c.args.first) (rows_at c.args.table.now c.args.second) c.requires.rows

pub multiply-requires-in-Cy-3-clause-commuting : goal.multiply-requires-in-Cy-3-clause-commuting
multiply-requires-in-Cy-3-clause-commuting c =
    let e1 = first-step c.args.table.now c.args.first c.args.second c.requires.first_in_range c.requires.second_in_range c.requires.distinct _ _ _ (begin c.args.table.now c.args.first c.args.second c.requires.first_in_range c.requires.second_in_range c.requires.distinct) OfX (λ r s. product r.x s.x) c.multiply-in-Cy.new.self c.multiply-in-Cy.ensures.value in
    let e2 = first-step c.args.table.now c.args.first c.args.second c.requires.first_in_range c.requires.second_in_range c.requires.distinct _ _ _ e1 OfX (λ r s. product_times_i r.x s.z) c.multiply_times_i.new.self c.multiply_times_i.ensures.value in
    let e3 = second-step c.args.table.now c.args.first c.args.second c.requires.first_in_range c.requires.second_in_range c.requires.distinct _ _ _ e2 OfX (λ r s. product s.x r.z) c.multiply-in-Cy-2.new.self c.multiply-in-Cy-2.ensures.value in
    (λ i. anticommute (second-read c.args.table.now c.args.first c.args.second c.requires.first_in_range c.requires.second_in_range c.requires.distinct _ _ _ e3 i).z (first-read c.args.table.now c.args.first c.args.second c.requires.first_in_range c.requires.second_in_range c.requires.distinct _ _ _ e3 i).z)
    ∙ back_z (length c.args.table.now) (rows_at c.args.table.now c.args.first) (rows_at c.args.table.now c.args.second) c.requires.rows

pub multiply-requires-in-Cz-2-clause-commuting : goal.multiply-requires-in-Cz-2-clause-commuting
multiply-requires-in-Cz-2-clause-commuting c =
    let e = first-step c.args.table.now c.args.first c.args.second c.requires.first_in_range c.requires.second_in_range c.requires.distinct _ _ _ (begin c.args.table.now c.args.first c.args.second c.requires.first_in_range c.requires.second_in_range c.requires.distinct) OfX (λ r s. product r.x s.z) c.multiply-in-Cz.new.self c.multiply-in-Cz.ensures.value in
    (λ i. anticommute (second-read c.args.table.now c.args.first c.args.second c.requires.first_in_range c.requires.second_in_range c.requires.distinct _ _ _ e i).x (first-read c.args.table.now c.args.first c.args.second c.requires.first_in_range c.requires.second_in_range c.requires.distinct _ _ _ e i).z)
    ∙ back_x (length c.args.table.now) (rows_at c.args.table.now c.args.first) (rows_at c.args.table.now c.args.second) c.requires.rows

pub returns-in-Cx : goal.returns-in-Cx
returns-in-Cx c =
    let e = first-step c.args.table.now c.args.first c.args.second c.requires.first_in_range c.requires.second_in_range c.requires.distinct _ _ _ (begin c.args.table.now c.args.first c.args.second c.requires.first_in_range c.requires.second_in_range c.requires.distinct) OfX (λ r s. product r.x s.x) c.multiply.new.self c.multiply.ensures.value in
    record {
      gated = rw c.in-Cx.is (is-pair_gated c.args.table.now c.args.first c.args.second c.requires.first_in_range c.requires.second_in_range c.requires.distinct Cx _ _ _
          (second-step c.args.table.now c.args.first c.args.second c.requires.first_in_range c.requires.second_in_range c.requires.distinct _ _ _ e OfZ (λ r s. product s.z r.z) _ c.multiply-in-Cx.ensures.value)
          (rows-cx (length c.args.table.now) (rows_at c.args.table.now c.args.first) (rows_at c.args.table.now c.args.second) c.requires.rows _ _ refl refl));
    }

pub returns-in-Cy : goal.returns-in-Cy
returns-in-Cy c =
    let e1 = first-step c.args.table.now c.args.first c.args.second c.requires.first_in_range c.requires.second_in_range c.requires.distinct _ _ _ (begin c.args.table.now c.args.first c.args.second c.requires.first_in_range c.requires.second_in_range c.requires.distinct) OfX (λ r s. product r.x s.x) c.multiply-in-Cy.new.self c.multiply-in-Cy.ensures.value in
    let e2 = first-step c.args.table.now c.args.first c.args.second c.requires.first_in_range c.requires.second_in_range c.requires.distinct _ _ _ e1 OfX (λ r s. product_times_i r.x s.z) c.multiply_times_i.new.self c.multiply_times_i.ensures.value in
    let e3 = second-step c.args.table.now c.args.first c.args.second c.requires.first_in_range c.requires.second_in_range c.requires.distinct _ _ _ e2 OfX (λ r s. product s.x r.z) c.multiply-in-Cy-2.new.self c.multiply-in-Cy-2.ensures.value in
    record {
      gated = rw c.in-Cy.is (is-pair_gated c.args.table.now c.args.first c.args.second c.requires.first_in_range c.requires.second_in_range c.requires.distinct Cy _ _ _
          (second-step c.args.table.now c.args.first c.args.second c.requires.first_in_range c.requires.second_in_range c.requires.distinct _ _ _ e3 OfZ (λ r s. product s.z r.z) _ c.multiply-in-Cy-3.ensures.value)
          (rows-cy (length c.args.table.now) (rows_at c.args.table.now c.args.first) (rows_at c.args.table.now c.args.second) c.requires.rows _ _ _ _ refl (phased_product-times_phase (product (rows_at c.args.table.now c.args.first).x (rows_at c.args.table.now c.args.second).x) (rows_at c.args.table.now c.args.second).z (mid_opposed (length c.args.table.now) (rows_at c.args.table.now c.args.first) (rows_at c.args.table.now c.args.second) c.requires.rows _ refl)) refl refl));
    }

pub returns-in-Cz : goal.returns-in-Cz
returns-in-Cz c =
    let e = first-step c.args.table.now c.args.first c.args.second c.requires.first_in_range c.requires.second_in_range c.requires.distinct _ _ _ (begin c.args.table.now c.args.first c.args.second c.requires.first_in_range c.requires.second_in_range c.requires.distinct) OfX (λ r s. product r.x s.z) c.multiply-in-Cz.new.self c.multiply-in-Cz.ensures.value in
    record {
      gated = rw c.in-Cz.is (is-pair_gated c.args.table.now c.args.first c.args.second c.requires.first_in_range c.requires.second_in_range c.requires.distinct Cz _ _ _
          (second-step c.args.table.now c.args.first c.args.second c.requires.first_in_range c.requires.second_in_range c.requires.distinct _ _ _ e OfX (λ r s. product s.x r.z) _ c.multiply-in-Cz-2.ensures.value)
          (rows-cz (length c.args.table.now) (rows_at c.args.table.now c.args.first) (rows_at c.args.table.now c.args.second) c.requires.rows _ _ refl refl));
    }

pub returns-in-Swap : goal.returns-in-Swap
returns-in-Swap c =
    let e = exchange-step c.args.table.now c.args.first c.args.second c.requires.first_in_range c.requires.second_in_range c.requires.distinct _ _ _ (begin c.args.table.now c.args.first c.args.second c.requires.first_in_range c.requires.second_in_range c.requires.distinct) OfX c.exchange.new.self c.exchange.ensures.value in
    record {
      gated = rw c.in-Swap.is (is-pair_gated c.args.table.now c.args.first c.args.second c.requires.first_in_range c.requires.second_in_range c.requires.distinct Swap _ _ _
          (exchange-step c.args.table.now c.args.first c.args.second c.requires.first_in_range c.requires.second_in_range c.requires.distinct _ _ _ e OfZ _ c.exchange-in-Swap.ensures.value)
          (rows-swap (length c.args.table.now) (rows_at c.args.table.now c.args.first) (rows_at c.args.table.now c.args.second) c.requires.rows));
    }

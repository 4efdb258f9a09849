use Rattle.stab_tableau.proofs.Names.{◌∙◌, ap, phased, product_times_i, phased_product-times_phase, rows_at}
use Rattle.stab_tableau.proofs.inverse_rows.copy_into.Goals as goal

pub returns-in-Y : goal.returns-in-Y
returns-in-Y c =
    record {
      value = rw c.in-Y.is
          (ap phased (c.multiply_into_times_i.ensures.value ∙ ap (λ p. product_times_i p (rows_at c.args.table.now c.args.qubit).z) c.copy_row-in-Y.ensures.value)
          ∙ phased_product-times_phase (rows_at c.args.table.now c.args.qubit).x (rows_at c.args.table.now c.args.qubit).z c.requires.row.opposed);
    }

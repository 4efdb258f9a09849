use Rattle.stab_tableau.proofs.Names.{refl, with_sign, true, product_times_i, OfZ, rows_at}
use Rattle.stab_tableau.proofs.GateRowLemmas.{opposed_back, y_of_x, y_of_z, negate-again}
use Rattle.stab_tableau.proofs.inverse_rows.take_y.Goals as goal

pub multiply_times_i-requires-in-OfZ-clause-anticommuting : goal.multiply_times_i-requires-in-OfZ-clause-anticommuting
multiply_times_i-requires-in-OfZ-clause-anticommuting c = opposed_back _ _ c.requires.row

pub returns-in-OfX : goal.returns-in-OfX
returns-in-OfX c =
    let r = rows_at c.args.table.now c.args.qubit in
    record { taken = (product_times_i r.x r.z, rw c.in-OfX.is c.multiply_times_i.ensures.value, y_of_x _ r c.requires.row _ refl) }

pub returns-in-OfZ : goal.returns-in-OfZ
returns-in-OfZ c =
    let r = rows_at c.args.table.now c.args.qubit in
    let y = product_times_i r.z r.x in
    let again =
    negate-again c.args.table.now c.args.qubit c.requires.in_range OfZ true _ _ _ c.multiply_times_i-in-OfZ.ensures.value c.negate_if.ensures.value in
    record { taken = (with_sign true y, rw c.in-OfZ.is again, y_of_z _ r c.requires.row y _ refl refl) }

use Rattle.stab_tableau.proofs.Names.{◌∙◌, ap, length, phased, phased-product, phased_product-times_phase, rows_at}
use Rattle.stab_tableau.proofs.WalkLemmas.{times-i, mid-size, mid-opposed, times-y}
use Rattle.stab_tableau.proofs.inverse_rows.multiply_into.Goals as goal

pub multiply_into_times_i-requires-clause-same_length : goal.multiply_into_times_i-requires-clause-same_length
multiply_into_times_i-requires-clause-same_length c = mid-size (length c.args.table.now) (rows_at c.args.table.now c.args.qubit) c.requires.row c.args.out.now c.requires.same_length c.requires.commutes_x c.requires.commutes_z _ c.multiply_into-in-Y.ensures.value

pub multiply_into_times_i-requires-clause-anticommuting : goal.multiply_into_times_i-requires-clause-anticommuting
multiply_into_times_i-requires-clause-anticommuting c = mid-opposed (length c.args.table.now) (rows_at c.args.table.now c.args.qubit) c.requires.row c.args.out.now c.requires.same_length c.requires.commutes_x c.requires.commutes_z _ c.multiply_into-in-Y.ensures.value

pub returns-in-I : goal.returns-in-I
returns-in-I c = record { value = rw c.in-I.is (times-i (length c.args.table.now) (rows_at c.args.table.now c.args.qubit) c.requires.row c.args.out.now c.requires.same_length c.requires.commutes_x c.requires.commutes_z) }

pub returns-in-X : goal.returns-in-X
returns-in-X c =
    record { value = rw c.in-X.is (ap phased c.multiply_into.ensures.value ∙ phased-product c.args.out.now (rows_at c.args.table.now c.args.qubit).x c.requires.commutes_x) }

pub returns-in-Y : goal.returns-in-Y
returns-in-Y c =
    record {
      value = rw c.in-Y.is (times-y (length c.args.table.now) (rows_at c.args.table.now c.args.qubit) c.requires.row c.args.out.now c.requires.same_length c.requires.commutes_x c.requires.commutes_z c.multiply_into-in-Y.new.out c.multiply_into_times_i.new.out c.multiply_into-in-Y.ensures.value
          (ap phased c.multiply_into_times_i.ensures.value
          ∙ phased_product-times_phase c.multiply_into-in-Y.new.out (rows_at c.args.table.now c.args.qubit).z (mid-opposed (length c.args.table.now) (rows_at c.args.table.now c.args.qubit) c.requires.row c.args.out.now c.requires.same_length c.requires.commutes_x c.requires.commutes_z c.multiply_into-in-Y.new.out c.multiply_into-in-Y.ensures.value)));
    }

pub returns-in-Z : goal.returns-in-Z
returns-in-Z c =
    record { value = rw c.in-Z.is (ap phased c.multiply_into-in-Z.ensures.value ∙ phased-product c.args.out.now (rows_at c.args.table.now c.args.qubit).z c.requires.commutes_z) }

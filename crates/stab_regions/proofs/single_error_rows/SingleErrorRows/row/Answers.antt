use Rattle.stab_regions.proofs.Names.{ap, arith, length}
use Rattle.stab_regions.proofs.StoredRowLemmas.{length-cut}
use Rattle.stab_regions.proofs.single_error_rows.SingleErrorRows.row.Goals as goal

pub row_of-requires-clause-in_range : goal.row_of-requires-clause-in_range
row_of-requires-clause-in_range c =
    omega (arith, c.requires.in_range, ap length c.self.view_is, length-cut 0 c.self.inside.ends.items c.self.inside.numbers.items, ap length c.as_slice.ensures.value)

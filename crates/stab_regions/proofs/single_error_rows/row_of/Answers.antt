use Rattle.stab_regions.proofs.Names.{refl, ◌∙◌, arith, length}
use Rattle.stab_regions.proofs.StoredRowLemmas.{rises-at, row-is}
use Rattle.stab_regions.proofs.single_error_rows.row_of.Goals as goal

pub part-requires-clause-order : goal.part-requires-clause-order
part-requires-clause-order c =
    let bounds = rises-at 0 c.args.ends.now (length c.args.numbers.now) c.args.k c.requires.rises c.requires.in_range in
    omega (arith, c.begin_of-begin.ensures.value, bounds.1)

pub part-requires-clause-in_range : goal.part-requires-clause-in_range
part-requires-clause-in_range c =
    let bounds = rises-at 0 c.args.ends.now (length c.args.numbers.now) c.args.k c.requires.rises c.requires.in_range in
    omega (arith, bounds.2)

pub returns : goal.returns
returns c = record {
  value = c.part.ensures.value ∙ row-is c.args.ends.now c.args.numbers.now c.args.k c.begin_of-begin.result _ c.requires.rises c.requires.in_range c.begin_of-begin.ensures.value refl;
}

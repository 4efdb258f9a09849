use Rattle.stab_tableau.proofs.Names.{row_at, with_row, swapped_rows}
use Rattle.stab_tableau.proofs.SupportLemmas.{others-stay}
use Rattle.stab_tableau.proofs.supports.XSupports.swap.Goals as goal

pub returns : goal.returns
returns c = record {
  covers = λ r la lb covers.
      let mid = with_row r c.args.a (row_at r c.args.b) in
      c.forget-2.ensures.covers mid (swapped_rows r c.args.a c.args.b)
      (c.forget.ensures.covers r mid covers (others-stay r c.args.a (row_at r c.args.b)))
      (others-stay mid c.args.b (row_at r c.args.a));
}

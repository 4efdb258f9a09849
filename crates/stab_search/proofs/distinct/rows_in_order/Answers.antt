use Rattle.stab_search.proofs.Names.{◌≡◌, sym, ◌∙◌, subst, below_more, row, HasRow}
use Rattle.stab_parities.proofs.MergeLemmas.{row-in}
use Rattle.stab_search.proofs.distinct.rows_in_order.Goals as goal

pub all-preserved : goal.all-preserved
all-preserved c =
    let rows = c.args.rows.now in
    let read : c.numbers-in-all.result.now ≡ row rows c.all.r =
    c.numbers-in-all.ensures.value ∙ c.index-rows-r-in-all.is ∙ row-in rows c.all.r c.index-rows-r-in-all.result c.all-test.true in record {
      rows = c.in_ok-take-2.ensures.rows rows c.all-test.true (sym read) c.all.invariant.rows;
      there = below_more _ _
          (λ q lt. c.in_ok-take-2.ensures.others (row rows q) (c.all.invariant.there q lt))
          (subst (HasRow c.take-in-all.new.distinct.rows.items) read c.in_ok-take-2.ensures.there);
    }

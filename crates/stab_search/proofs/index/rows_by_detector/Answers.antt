use Rattle.stab_search.proofs.Names.{◌∙◌, length}
use Rattle.stab_search.proofs.IndexLemmas.{complete-more}
use Rattle.stab_parities.proofs.MergeLemmas.{row-in}
use Rattle.stab_search.proofs.index.rows_by_detector.Goals as goal

pub all-preserved : goal.all-preserved
all-preserved c = record {
  inside = λ d. c.in_ok-list_row.ensures.inside (length c.args.rows.now) d c.all-test.true (c.all.invariant.inside d);
  complete = complete-more c.args.rows.now c.all.index.items c.list_row.new.index.items c.all.r c.numbers.result.now
      (c.numbers.ensures.value ∙ c.index-rows-r.is ∙ row-in c.args.rows.now c.all.r c.index-rows-r.result c.all-test.true)
      c.in_ok-list_row.ensures.others c.in_ok-list_row.ensures.each c.all.invariant.complete;
}

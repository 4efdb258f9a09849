use Rattle.stab_search.proofs.Names.{◌∙◌, sym, get_or}
use Rattle.stab_search.proofs.EqualLemmas.{pointwise-true}
use Rattle.stab_parities.proofs.MergeLemmas.{row-in}
use Rattle.stab_search.proofs.distinct.has_row.Goals as goal

pub returns-then-eq : goal.returns-then-eq
returns-then-eq c = record {
  yes = λ yes.
      let k = get_or c.args.candidates.now c.candidates.k-index 0 in (
        k,
        c.if-k-rows.true,
        sym (c.numbers.ensures.value ∙ c.index-rows-k.is ∙ row-in c.args.rows.now k c.index-rows-k.result c.if-k-rows.true)
            ∙ pointwise-true c.numbers.result.now c.args.numbers.now (sym (c.if-eq.ensures)),
      );
}

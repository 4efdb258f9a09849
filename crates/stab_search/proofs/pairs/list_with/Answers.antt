use Rattle.stab_search.proofs.PairListLemmas.{pairs-more}
use Rattle.stab_search.proofs.pairs.list_with.Goals as goal

pub returns : goal.returns
returns c = record {
  pairs = λ rows firsts differ out are.
      pairs-more rows firsts c.args.pairs.now.items c.list.new.index.items c.args.a c.args.b c.in_ok-list.ensures.here c.in_ok-list.ensures.elsewhere differ out are;
}

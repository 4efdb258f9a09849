use Rattle.stab_search.proofs.Names.{◌∙◌, sym, ap, arith, get_or}
use Rattle.stab_search.proofs.ListLemmas.{has-at}
use Rattle.stab_search.proofs.counting.any_live.Goals as goal

pub returns : goal.returns
returns c = record {
  not = λ no e there.
      let position = has-at e c.args.errors.now there in
      let less = position.1.0 in
      sym (ap (λ j. get_or c.args.weights.now j 0) position.1.1) ∙ c.errors.invariant position.0 (omega (arith, less, c.errors-test.false));
}

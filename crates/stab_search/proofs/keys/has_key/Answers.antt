use Rattle.stab_search.proofs.Names.{◌<◌, length, get_or, subst, sym, ◌∙◌, ap, arith}
use Rattle.stab_search.proofs.ListLemmas.{has-at}
use Rattle.stab_search.proofs.keys.has_key.Goals as goal

pub returns : goal.returns
returns c = record {
  not = λ none r among lt same.
      let position = has-at r c.args.candidates.now among in
      let less = position.1.0 in
      c.candidates.invariant position.0 (omega (arith, less, c.candidates-test.false))
      (subst (λ k. k < length c.args.keys.now) (sym position.1.1) lt)
      (ap (λ k. get_or c.args.keys.now k 0) position.1.1 ∙ same);
}

use Rattle.stab_search.proofs.Names.{rules, ◌<◌, inl, inr, sym, subst, arith, ForEach}
use Rattle.stab_search.proofs.ListLemmas.{by-bit}
use Rattle.stab_search.proofs.TryLemmas.{put-step, put-all}
use Rattle.stab_search.proofs.counting.put_back.Goals as goal

pub errors-init : goal.errors-init
errors-init c = record { back = λ was each others e. by-bit _ (λ there. inl there) (λ not. inr (others e not)); size = omega arith }

pub errors-preserved : goal.errors-preserved
errors-preserved c = record {
  back = λ was each others e.
      put-step c.args.errors.now c.args.before.now was c.errors.weights _ c.errors.k e c.errors-test.true
      (subst (λ n. ForEach (λ g. g < n) c.args.errors.now) (sym c.errors.invariant.size) c.requires.inside)
      (search rules) each (c.errors.invariant.back was each others e);
  size = search rules;
}

pub returns : goal.returns
returns c = record {
  back = λ was long each others.
      put-all c.args.errors.now was c.errors.weights c.errors.k c.errors-test.false (omega (arith, long, c.errors.invariant.size))
      (c.errors.invariant.back was each others);
}

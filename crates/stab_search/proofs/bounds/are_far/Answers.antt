use Rattle.stab_search.proofs.Names.{arith, below_more}
use Rattle.stab_search.proofs.GraphLemmas.{true-inside}
use Rattle.stab_search.proofs.bounds.are_far.Goals as goal

pub sources-preserved : goal.sources-preserved
sources-preserved c = below_more _ _ c.sources.invariant (c.in_ok-is_far.ensures.yes c.if-not-branch.false)

pub returns : goal.returns
returns c = record {
  yes = λ yes s is. c.sources.invariant s (omega (arith, true-inside c.args.sources.now s is, c.sources-test.false)) is;
}

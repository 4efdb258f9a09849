use Rattle.stab_search.proofs.Names.{◌≡◌, ℕ, sym, ◌∙◌, ap, List, ◌++◌, length, take, arith, below_more}
use Rattle.std.proofs.Math.Seq.{take-append_seam}
use Rattle.stab_search.proofs.SearchPartLemmas.{none-in}
use Rattle.stab_search.proofs.sizes.of_one_more.Goals as goal

-- a vector whose items are all written has as many as were written
written : (n : ℕ) (new rest : List ℕ) → n ≡ length new → length (take n (new ++ rest)) ≡ length new
written n new rest e = ap (λ m. length (take m (new ++ rest))) e ∙ ap length (take-append_seam new rest)

pub firsts-preserved : goal.firsts-preserved
firsts-preserved c = record {
  cover =
      written c.firsts.cover.len c.with_first.new.cover _ (c.firsts.cover.ok.0 ∙ sym (c.with_first.ensures.cover ∙ ap length c.as_mut_slice.ensures.value))
      ∙ c.with_first.ensures.cover ∙ ap length c.as_mut_slice.ensures.value ∙ c.firsts.invariant.cover;
  tried = below_more _ _ c.firsts.invariant.tried (λ begins none. rw c.in_default.is at c.in_ok-found.ensures.none begins none);
}

pub returns-clause-none : goal.returns-clause-none
returns-clause-none c =
    none-in c.args.errors.now.table c.args.errors.now.pairs c.args.firsts c.requires.pairs c.args.left c.args.part.now
    (λ f lt. c.firsts.invariant.tried f (omega (arith, lt, c.firsts-test.false)))

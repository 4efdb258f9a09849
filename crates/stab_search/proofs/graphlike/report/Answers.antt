use Rattle.stab_search.proofs.Names.{◌≡◌, arith, subst, HearsOn}
use Rattle.stab_search.proofs.ReportLemmas.{on-next}
use Rattle.stab_search.proofs.graphlike.report.Goals as goal

pub sizes-preserved : goal.sizes-preserved
sizes-preserved g c = record {
  within = omega (arith, c.sizes-test.true);
  heard = on-next 0 c.sizes.k (g.P.Progress.heard c.args.progress.now) (g.P.Progress.heard c.sizes.progress) (g.P.Progress.heard c.none_within.new.self) c.sizes.invariant.heard c.none_within.ensures.hears;
}

pub returns : goal.returns
returns g c =
    let all : c.sizes.k ≡ c.args.last = omega (arith, c.sizes.invariant.within, c.sizes-test.false) in record {
      reported = subst (λ k. HearsOn 0 k (g.P.Progress.heard c.args.progress.now) (g.P.Progress.heard c.sizes.progress)) all c.sizes.invariant.heard;
    }

use Rattle.stab_search.proofs.Names.{◌≡◌, ◌+◌, subst, arith, BeginsBefore}
use Rattle.stab_search.specs.SearchParts.{Searched, HasNoneIn}
use Rattle.stab_search.specs.inner.ReportedProgress.{IsFirstFound}
use Rattle.stab_search.proofs.ReportLemmas.{on-next, ok-of_err}
use Rattle.stab_search.proofs.SearchPartLemmas.{none-next}
use Rattle.stab_search.proofs.sizes.first_in_part.Goals as goal

pub sizes-preserved : goal.sizes-preserved
sizes-preserved g c = record {
  order = omega (arith, c.sizes.invariant.order);
  within = omega (arith, c.sizes-test.true);
  none = none-next (λ size. HasNoneIn c.args.part.now (record { table = c.args.errors.now.table; firsts = c.args.errors.now.firsts }) size) c.args.from c.sizes.left c.sizes.invariant.none
      (subst (λ k. HasNoneIn c.args.part.now (record { table = c.args.errors.now.table; firsts = k }) (c.sizes.left + 1)) c.firsts-firsts.ensures.value
      (rw c.in-None.is at c.in_ok-found.ensures.none));
  heard = on-next c.args.from c.sizes.left (g.P.Progress.heard c.args.progress.now) (g.P.Progress.heard c.sizes.progress) (g.P.Progress.heard c.none_within.new.self) c.sizes.invariant.heard
      c.none_within.ensures.hears;
}

pub returns-in_err-found : goal.returns-in_err-found
returns-in_err-found g c =
    let s : Searched = record { table = c.args.errors.now.table; firsts = c.args.errors.now.firsts } in
    record {
      reported = record {
        begun = subst (BeginsBefore c.args.errors.now.table) c.firsts-firsts.ensures.value c.firsts-firsts.ensures.begun;
        last = c.sizes.left;
        none = c.sizes.invariant.none;
        heard = c.sizes.invariant.heard;
        found = ok-of_err _ _ _ (IsFirstFound c.args.part.now s c.args.most c.sizes.left) c.from_residual.result c.from_residual.ensures.1;
      };
    }

pub returns-in-Some : goal.returns-in-Some
returns-in-Some g c =
    let s : Searched = record { table = c.args.errors.now.table; firsts = c.args.errors.now.firsts } in
    record {
      reported = record {
        begun = subst (BeginsBefore c.args.errors.now.table) c.firsts-firsts.ensures.value c.firsts-firsts.ensures.begun;
        last = c.sizes.left;
        none = c.sizes.invariant.none;
        heard = c.sizes.invariant.heard;
        found = search arith;
      };
    }

pub returns : goal.returns
returns g c =
    let all : c.sizes.left ≡ c.args.most = omega (arith, c.sizes.invariant.within, c.sizes-test.false) in
    record {
      reported = record {
        begun = subst (BeginsBefore c.args.errors.now.table) c.firsts-firsts.ensures.value c.firsts-firsts.ensures.begun;
        last = c.sizes.left;
        none = c.sizes.invariant.none;
        heard = c.sizes.invariant.heard;
        found = all;
      };
    }

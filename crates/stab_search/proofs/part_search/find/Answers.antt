use Rattle.stab_search.proofs.Names.{sym, subst, arith, Decides}
use Rattle.stab_search.specs.SearchParts.{Searched}
use Rattle.stab_search.specs.inner.ReportedProgress.{IsPartFound}
use Rattle.stab_search.proofs.ReportLemmas.{later, ok-of_err}
use Rattle.stab_search.proofs.SearchPartLemmas.{begun-found, same-searched}
use Rattle.stab_search.proofs.part_search.find.Goals as goal

pub returns-in-Some : goal.returns-in-Some
returns-in-Some g c =
    let s : Searched = record { table = c.args.errors.now.table; firsts = c.args.errors.now.firsts } in
    let r = rw c.in-Some.is at c.in_ok-found.ensures.reported in
    record {
      reported = record {
        begun = r.begun;
        last = r.last;
        none = r.none;
        heard = r.heard;
        found = begun-found c.args.part.now s c.min-middle.result c.args.most r.last c.in-Some.found (omega (arith, c.min-middle.ensures, c.min-end.ensures)) r.found;
      };
    }

pub returns-then-not-exists : goal.returns-then-not-exists
returns-then-not-exists g c =
    let r = rw c.in-None.is at c.in_ok-found.ensures.reported in
    record {
      reported = record {
        begun = r.begun;
        last = r.last;
        none = r.none;
        heard = r.heard;
        found = (sym r.found, omega (arith, c.min-middle.ensures, c.min-end.ensures), subst (Decides c.args.errors.now.table) c.if-not-exists.true c.in_ok-exists.ensures.decides);
      };
    }

pub returns-in_err-found-2 : goal.returns-in_err-found-2
returns-in_err-found-2 g c =
    let s : Searched = record { table = c.args.errors.now.table; firsts = c.args.errors.now.firsts } in
    let u = c.leave_out_pairs.new.self in
    let after = c.in_err-found-2.ensures.reported in
    record {
      reported = later c.args.part.now s.table u.table s.firsts u.firsts c.in_ok-leave_out_pairs.ensures.table c.in_ok-leave_out_pairs.ensures.firsts _ _ _ c.min-middle.result c.min-end.result c.args.most _
          _ _ _ c.from_residual-in_err-found-2.result (rw c.in-None.is at c.in_ok-found.ensures.reported) after
          (ok-of_err _ _ _ (IsPartFound c.args.part.now s c.args.most after.last) c.from_residual-in_err-found-2.result c.from_residual-in_err-found-2.ensures.1);
    }

pub returns-in-Some-2 : goal.returns-in-Some-2
returns-in-Some-2 g c =
    let p = c.args.part.now in
    let s : Searched = record { table = c.args.errors.now.table; firsts = c.args.errors.now.firsts } in
    let u = c.leave_out_pairs.new.self in
    let f = c.in-Some-2.found in
    let table = c.in_ok-leave_out_pairs.ensures.table in
    let firsts = c.in_ok-leave_out_pairs.ensures.firsts in
    let after = rw c.in-Some-2.is at c.in_ok-found-2.ensures.reported in
    record {
      reported = later p s.table u.table s.firsts u.firsts table firsts _ _ _ c.min-middle.result c.min-end.result c.args.most _ _ _ _ _ (rw c.in-None.is at c.in_ok-found.ensures.reported) after
          (subst (λ (q : Searched). IsPartFound p q c.args.most after.last f) (same-searched s.table u.table s.firsts u.firsts table firsts)
          (begun-found p (record { table = u.table; firsts = u.firsts }) c.min-end.result c.args.most after.last f (omega (arith, c.min-end.ensures)) after.found));
    }

pub returns-in-None-2 : goal.returns-in-None-2
returns-in-None-2 g c =
    let s : Searched = record { table = c.args.errors.now.table; firsts = c.args.errors.now.firsts } in
    let u = c.leave_out_pairs.new.self in
    let after = rw c.in-None-2.is at c.in_ok-found-2.ensures.reported in
    record {
      reported = later c.args.part.now s.table u.table s.firsts u.firsts c.in_ok-leave_out_pairs.ensures.table c.in_ok-leave_out_pairs.ensures.firsts _ _ _ c.min-middle.result c.min-end.result c.args.most _
          _ _ _ _ (rw c.in-None.is at c.in_ok-found.ensures.reported) after (
            sym after.found,
            omega (arith, c.min-end.ensures),
            (omega (arith, c.min-end.ensures, c.len.ensures.value), subst (Decides s.table) c.if-not-exists.false c.in_ok-exists.ensures.decides),
          );
    }

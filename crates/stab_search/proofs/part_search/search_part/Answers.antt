use Rattle.stab_search.proofs.Names.{ℕ, List, length, subst, arith, sym}
use Rattle.stab_search.specs.inner.ReportedProgress.{AreInside, IsInTable}
use Rattle.stab_search.proofs.ReportLemmas.{ok-of_err}
use Rattle.stab_search.proofs.SearchPartLemmas.{enough-search, own-search, inside-in, part-answer, part-reaches}
use Rattle.stab_search.proofs.StepLemmas.{all-begin}
use Rattle.stab_search.proofs.part_search.search_part.Goals as goal

pub returns-in_err-retained-clause-reported : goal.returns-in_err-retained-clause-reported
returns-in_err-retained-clause-reported g c =
    let t = c.args.table.now in
    let begun = all-begin t in
    record {
      searched = record { table = t; firsts = length t.rows };
      is = own-search t (length t.rows) begun;
      reports = record {
        begun = begun;
        last = 0;
        none = λ size lt le. omega (arith, lt, le);
        heard = λ first said h. h;
        found = ok-of_err _ _ _ _ c.from_residual.result c.from_residual.ensures.1;
      };
    }

pub returns-in_err-found-clause-reported : goal.returns-in_err-found-clause-reported
returns-in_err-found-clause-reported g c =
    let e = c.in_ok-retained.retained.errors in
    let r = c.in_err-found.ensures.reported in
    record {
      searched = record { table = e.table; firsts = e.firsts };
      is = enough-search c.args.table.now e.table c.in_ok-retained.retained.numbers.items e.firsts c.in_ok-retained.ensures.enough r.begun;
      reports = record {
        begun = r.begun;
        last = r.last;
        none = r.none;
        heard = r.heard;
        found = ok-of_err _ _ _ _ c.from_residual-in_err-found.result c.from_residual-in_err-found.ensures.1;
      };
    }

pub in_table-requires : goal.in_table-requires
in_table-requires g c =
    let e = c.in_ok-retained.retained.errors in
    let numbers = c.in_ok-retained.retained.numbers.items in
    let enough = c.in_ok-retained.ensures.enough in
    let f = c.in_ok-found.found in
    let r = c.in_ok-found.ensures.reported in
    record {
      inside = subst (λ (xs : List ℕ). AreInside (length xs) f.answer) (sym c.as_slice.ensures.value)
          (inside-in c.args.part.now c.args.table.now (record { table = e.table; firsts = e.firsts }) numbers enough (enough-search c.args.table.now e.table numbers e.firsts enough r.begun) c.args.most f.last f.first
          f.answer r.found.2);
    }

pub returns-in_err-answer-clause-reported : goal.returns-in_err-answer-clause-reported
returns-in_err-answer-clause-reported g c =
    let e = c.in_ok-retained.retained.errors in
    let r = c.in_ok-found.ensures.reported in
    record {
      searched = record { table = e.table; firsts = e.firsts };
      is = enough-search c.args.table.now e.table c.in_ok-retained.retained.numbers.items e.firsts c.in_ok-retained.ensures.enough r.begun;
      reports = record {
        begun = r.begun;
        last = r.last;
        none = r.none;
        heard = r.heard;
        found = ok-of_err _ _ _ _ c.from_residual-in_err-answer.result c.from_residual-in_err-answer.ensures.1;
      };
    }

pub returns-clause-answer : goal.returns-clause-answer
returns-clause-answer g c =
    let e = c.in_ok-retained.retained.errors in
    let numbers = c.in_ok-retained.retained.numbers.items in
    let enough = c.in_ok-retained.ensures.enough in
    let f = c.in_ok-found.found in
    let r = c.in_ok-found.ensures.reported in
    part-answer c.args.part.now c.args.table.now (record { table = e.table; firsts = e.firsts }) numbers enough (enough-search c.args.table.now e.table numbers e.firsts enough r.begun) c.args.most f r.last r.none
    r.found c.with_errors-digest.result c.with_errors-digest.ensures.value c.in_ok-answer.answer
    (subst (λ (xs : List ℕ). IsInTable xs f.answer c.in_ok-answer.answer) c.as_slice.ensures.value c.in_ok-answer.ensures.same)

pub returns-clause-reported : goal.returns-clause-reported
returns-clause-reported g c =
    let e = c.in_ok-retained.retained.errors in
    let numbers = c.in_ok-retained.retained.numbers.items in
    let enough = c.in_ok-retained.ensures.enough in
    let f = c.in_ok-found.found in
    let r = c.in_ok-found.ensures.reported in
    let is = enough-search c.args.table.now e.table numbers e.firsts enough r.begun in
    record {
      searched = record { table = e.table; firsts = e.firsts };
      is = is;
      reports = record {
        begun = r.begun;
        last = r.last;
        none = r.none;
        heard = r.heard;
        found = part-reaches c.args.part.now c.args.table.now (record { table = e.table; firsts = e.firsts }) numbers enough is c.args.most f r.last r.found c.in_ok-answer.answer
            (subst (λ (xs : List ℕ). IsInTable xs f.answer c.in_ok-answer.answer) c.as_slice.ensures.value c.in_ok-answer.ensures.same);
      };
    }

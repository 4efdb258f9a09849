use Rattle.stab_search.proofs.Names.{IsExcludedBy}
use Rattle.stab_search.proofs.ReportLemmas.{ok-of_err}
use Rattle.stab_search.proofs.SearchPartLemmas.{whole-answer, whole-excluded, whole-none}
use Rattle.stab_search.proofs.least.least_of.Goals as goal

pub returns-in_err-found-clause-reported : goal.returns-in_err-found-clause-reported
returns-in_err-found-clause-reported g c =
    let part = c.in_err-found.ensures.reported in
    record {
      last = part.reports.last;
      none = whole-none c.args.table.now c.whole-whole.result c.whole-whole.ensures.value part.searched part.is part.reports.last part.reports.none;
      heard = part.reports.heard;
      all = ok-of_err _ _ _ (λ a. IsExcludedBy c.args.most a part.reports.last) c.from_residual.result c.from_residual.ensures.1;
    }

pub returns-clause-answer : goal.returns-clause-answer
returns-clause-answer g c = whole-answer c.args.table.now c.whole-whole.result c.whole-whole.ensures.value c.args.most c.in_ok-found.found c.in_ok-found.ensures.answer

pub returns-clause-reported : goal.returns-clause-reported
returns-clause-reported g c =
    let part = c.in_ok-found.ensures.reported in
    record {
      last = part.reports.last;
      none = whole-none c.args.table.now c.whole-whole.result c.whole-whole.ensures.value part.searched part.is part.reports.last part.reports.none;
      heard = part.reports.heard;
      all = whole-excluded c.args.table.now c.whole-whole.result c.whole-whole.ensures.value part.searched part.is c.args.most part.reports.last part.reports.none c.in_ok-found.found
          c.in_ok-found.ensures.answer part.reports.found.0 part.reports.found.1;
    }

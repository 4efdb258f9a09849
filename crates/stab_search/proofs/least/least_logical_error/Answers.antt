use Rattle.stab_search.proofs.Names.{length, HasNoneWithin}
use Rattle.stab_search.proofs.ReportLemmas.{reported-on}
use Rattle.stab_search.proofs.least.least_logical_error.Goals as goal

pub returns-clause-reported : goal.returns-clause-reported
returns-clause-reported g c =
    reported-on _ (length c.args.table.now.rows) c.args.most (HasNoneWithin c.args.table.now) c.len.result c.least_of.ensures.reported.last (g.P.Progress.heard c.args.progress.now)
    (g.P.Progress.heard c.begins.new.self) (g.P.Progress.heard c.least_of.new.progress) c.least_of.result c.least_of.ensures.reported.none c.len.ensures.value c.begins.ensures.hears
    c.least_of.ensures.reported.heard c.least_of.ensures.reported.all

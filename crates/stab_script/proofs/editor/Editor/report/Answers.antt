use Rattle.stab_script.proofs.Names.{sym, ap, subst, Request, asked_if_any, Reported, progress}
use Rattle.std.specs.Prelude.{List}
use Rattle.stab_script.proofs.ReportLaws.{reported_none}
use Rattle.stab_script.proofs.editor.Editor.report.Goals as goal

pub returns-in-None-clause-reports : goal.returns-in-None-clause-reports
returns-in-None-clause-reports g c =
    let now = progress g.A.Answer.environment g.A.Answer.held c.args.self.now in
    let o = g.O.Output.seen c.args.out.now in
    subst (λ (l : List Request). Reported now now l o o) (sym (ap asked_if_any c.in-None.is)) (reported_none now o)

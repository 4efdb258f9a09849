use Rattle.stab_script.proofs.Names.{◌≡◌, ap, ◌∙◌, subst, Request, ScriptReader, read_last, script_closed, asked_if_any, Reported, ReportedSome, AnswersRequests, progress}
use Rattle.std.specs.Prelude.{List}
use Rattle.stab_script.proofs.ReportLaws.{reported_some_within, reports_err, reports_after}
use Rattle.stab_script.proofs.editor.Editor.report_last.Goals as goal

pub returns-in_err-report : goal.returns-in_err-report
returns-in_err-report g c =
    let old = progress g.A.Answer.environment g.A.Answer.held c.args.self.now in
    let last = read_last c.args.self.now.reader in
    let o = g.O.Output.seen c.args.out.now in
    let o' = g.O.Output.seen c.report.new.out in
    record {
      reports = reports_err old _ _ o o' c.in_err-report.field-0.0 c.from_residual-in_err-report.result c.from_residual-in_err-report.ensures.1
          (reported_some_within last.requests (script_closed last.reader.gathering last.reader).requests c.in_err-report.field-0.0
          (subst (λ (l : List Request). ReportedSome old l o o' c.in_err-report.field-0.0) c.in_ok-last.ensures.requests c.in_err-report.ensures.reports));
    }

pub returns : goal.returns
returns g c =
    let old = progress g.A.Answer.environment g.A.Answer.held c.args.self.now in
    let mid = progress g.A.Answer.environment g.A.Answer.held c.report.new.self in
    let new = progress g.A.Answer.environment g.A.Answer.held c.report-2.new.self in
    let last = read_last c.args.self.now.reader in
    let o = g.O.Output.seen c.args.out.now in
    let p = g.O.Output.seen c.report.new.out in
    let q = g.O.Output.seen c.report-2.new.out in
    let reader : c.report.new.self.reader ≡ last.reader = c.report.ensures.reader ∙ c.in_ok-last.ensures.reader in
    let rest : asked_if_any c.close-rest.result ≡ (script_closed last.reader.gathering last.reader).requests = c.close-rest.ensures.requests ∙ ap (λ (d : ScriptReader). (script_closed d.gathering d).requests) reader in
    record {
      reports = reports_after new q last.requests (script_closed last.reader.gathering last.reader).requests c.report-2.result
          (subst (λ (l : List Request). Reported old mid l o p) c.in_ok-last.ensures.requests c.in_ok-report.ensures.reports)
          (subst (λ (l : List Request). AnswersRequests mid new l p q c.report-2.result) rest c.report-2.ensures.reports);
    }

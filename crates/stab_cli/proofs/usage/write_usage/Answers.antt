use Rattle.std.proofs.Common.{◌∙◌, subst, inr}
use Rattle.stab_io.specs.Refusals.{whole}
use Rattle.stab_report.specs.Endings.{FailsToSend}
use Rattle.stab_report.specs.FaultLines.{ReportsFault}
use Rattle.stab_cli.proofs.usage.write_usage.Goals as goal

pub returns-in-Err : goal.returns-in-Err
returns-in-Err g c =
    let text = c.as_bytes.ensures.value ∙ c.as_str.ensures.value in
    let failed = subst (λ t. FailsToSend (g.O.Output.seen c.args.out.now) (g.O.Output.seen c.write_flushed.new.out) t) text c.in-Err.ensures.sends.1 in
    let reported = subst (λ r. ReportsFault (whole r) (g.E.Output.seen c.args.err.now) (g.E.Output.seen c.report.new.err)) c.in-Err.ensures.sends.0 c.report.ensures.reported in
    record { reported = rw c.in-Help.is (inr (c.report.ensures.status, failed, reported)) }

use Rattle.stab_report.proofs.Names.{failed_on, fault_line, random_line, reported_text}
use Rattle.stab_report.proofs.SingleErrorTextLaws.{failed_reported}
use Rattle.stab_report.proofs.WritingLaws.{writes_after}
use Rattle.stab_report.proofs.fault_line.write_refused.Goals as goal

pub returns-in_err-write_fault : goal.returns-in_err-write_fault
returns-in_err-write_fault g c =
    let refused = c.args.refused.now in record {
      writes = failed_on (g.O.Output.seen c.args.out.now) (g.O.Output.seen c.write_fault.new.out) (reported_text refused.fault refused.random) c.in_err-write_fault.field-0.0 c.from_residual.result c.from_residual.ensures.1
          c.in_err-write_fault.ensures.writes.0
          (failed_reported refused.fault refused.random c.in_err-write_fault.ensures.writes.1);
    }

pub returns-in-Some : goal.returns-in-Some
returns-in-Some g c = record {
  writes = rw c.in-Some.is (writes_after (g.O.Output.seen c.write_random.new.out) (fault_line c.args.refused.now.fault) (random_line c.in-Some.random) c.write_random.result c.in_ok-write_fault.ensures.writes c.write_random.ensures.writes);
}

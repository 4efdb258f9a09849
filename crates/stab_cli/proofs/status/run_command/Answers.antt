use Rattle.std.proofs.Common.{false, subst, sym}
use Rattle.stab_report.specs.Questions.{EndsQuestion}
use Rattle.stab_report.specs.SingleErrorTables.{EndsFaults, fault_of}
use Rattle.stab_cli.proofs.WarningLaws.{warned_alike, warned_by_question}
use Rattle.stab_cli.proofs.status.run_command.Goals as goal

pub returns-in-Faults-clause-ends : goal.returns-in-Faults-clause-ends
returns-in-Faults-clause-ends g c =
    let ends = subst
    (λ u. EndsFaults c.in-Faults.layout c.in-Faults.everywhere c.in-Faults.only (g.I.Input.seen c.args.input.now) (g.I.Input.seen c.run_faults.new.input) (g.O.Output.seen c.args.out.now) (g.O.Output.seen c.run_faults.new.out) (fault_of c.run_faults.result) u)
    (sym c.refuses_none.ensures.same) c.run_faults.ensures.ends in
    rw c.in-Faults.is (fault_of c.run_faults.result, ends, c.refuses_none.ensures.value)

pub returns-in-Distance-clause-ends : goal.returns-in-Distance-clause-ends
returns-in-Distance-clause-ends g c =
    let ends = subst
    (λ u. EndsQuestion c.in-Distance.question c.in-Distance.options (g.I.Input.seen c.args.input.now) (g.I.Input.seen c.run_question.new.input) (g.O.Output.seen c.args.out.now) (g.O.Output.seen c.run_question.new.out) (fault_of c.run_question.result) u)
    (sym c.refuses_none-in-Distance.ensures.same) c.run_question.ensures.ends in
    rw c.in-Distance.is (fault_of c.run_question.result, ends, c.refuses_none-in-Distance.ensures.value)

pub returns-in-Distance-clause-reported : goal.returns-in-Distance-clause-reported
returns-in-Distance-clause-reported g c = rw c.in-Distance.is (fault_of c.run_question.result, c.run_question.ensures.reported, c.refuses_none-in-Distance.ensures.value)

-- what is left of the error output

pub returns-in-Check-clause-warns : goal.returns-in-Check-clause-warns
returns-in-Check-clause-warns g c =
    rw c.in-Check.is (warned_alike false (g.I.Input.seen c.args.input.now) (g.I.Input.seen c.run_check.new.input) (g.E.Output.seen c.args.err.now) (g.E.Output.seen c.run_check.new.err) c.run_check.result (fault_of c.plain_answer-in-Check.result) c.plain_answer-in-Check.ensures.value c.run_check.ensures.warns)

pub returns-in-Faults-clause-warns : goal.returns-in-Faults-clause-warns
returns-in-Faults-clause-warns g c =
    rw c.in-Faults.is (warned_alike c.in-Faults.everywhere (g.I.Input.seen c.args.input.now) (g.I.Input.seen c.run_faults.new.input) (g.E.Output.seen c.args.err.now) (g.E.Output.seen c.run_faults.new.err) (fault_of c.run_faults.result) (fault_of c.refuses_none.result) c.refuses_none.ensures.value c.run_faults.ensures.warns)

pub returns-in-Distance-clause-warns : goal.returns-in-Distance-clause-warns
returns-in-Distance-clause-warns g c =
    rw c.in-Distance.is (warned_by_question c.in-Distance.question c.in-Distance.options (g.I.Input.seen c.args.input.now) (g.I.Input.seen c.run_question.new.input) (g.E.Output.seen c.args.err.now) (g.E.Output.seen c.run_question.new.err) (fault_of c.run_question.result) (fault_of c.refuses_none-in-Distance.result) c.refuses_none-in-Distance.ensures.value c.run_question.ensures.warns)

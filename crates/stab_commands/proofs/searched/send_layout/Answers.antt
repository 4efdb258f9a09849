use Rattle.stab_commands.proofs.Names.{refl, sym, subst, circuit_items, SendsFound, error_lines}
use Rattle.stab_report.specs.Distances.{IsErrorsText}
use Rattle.stab_jobs.specs.declared.job.SearchedLayout.TheVariants.{Table}
use Rattle.stab_commands.proofs.FoundLaws.{found_at_once}
use Rattle.stab_commands.proofs.searched.send_layout.Goals as goal

pub returns-in-Table : goal.returns-in-Table
returns-in-Table g c =
    let items = circuit_items c.args.circuit.now in
    let errors = c.args.errors.now in
    let old = g.O.Output.seen c.args.out.now in
    let new = g.O.Output.seen c.send_errors.new.out in
    record {
      sends = subst (λ l. SendsFound (IsErrorsText l items errors) old new c.send_errors.result) (sym c.in-Table.is)
          (found_at_once (IsErrorsText Table items errors) old new (error_lines items errors) c.send_errors.result refl c.send_errors.ensures.sends);
    }

pub returns-in-Wcnf : goal.returns-in-Wcnf
returns-in-Wcnf g c =
    let items = circuit_items c.args.circuit.now in
    let errors = c.args.errors.now in
    let old = g.O.Output.seen c.args.out.now in
    let new = g.O.Output.seen c.send_problem_of.new.out in
    record { sends = subst (λ l. SendsFound (IsErrorsText l items errors) old new c.send_problem_of.result) (sym c.in-Wcnf.is) c.send_problem_of.ensures.sends }

use Rattle.stab_commands.proofs.Names.{◌≡◌, refl, subst, IsErrAnd, OutOfMemory, whole, qubits_of, unroll, circuit_items, check-fits}
use Rattle.stab_commands.proofs.RowLemmas.{coins-have-rows}
use Rattle.stab_report.proofs.MemoryLaws.{checked_on_own_qubits}
use Rattle.stab_report.proofs.SendingLaws.{cut_off_here, sends_cut_off}
use Rattle.stab_commands.proofs.reasons.send_reasons.Goals as goal

pub returns-in_err-runs-clause-table : goal.returns-in_err-runs-clause-table
returns-in_err-runs-clause-table g c =
    let items = circuit_items c.args.circuit.now in
    coins-have-rows (qubits_of items) items (check-fits (qubits_of items) items (unroll items) (checked_on_own_qubits items c.requires.checked) refl c.items.ensures.distinct)

pub returns-in_err-lists-clause-sends : goal.returns-in_err-lists-clause-sends
returns-in_err-lists-clause-sends g c =
    let seen = g.O.Output.seen c.args.out.now in
    sends_cut_off _ seen seen (whole OutOfMemory) c.from_residual-in_err-lists.result (cut_off_here seen _)
    (subst (λ f. IsErrAnd c.from_residual-in_err-lists.result (λ y. y ≡ f)) c.in_err-lists.ensures.err c.from_residual-in_err-lists.ensures.1)

use Rattle.stab_commands.proofs.Names.{Err, inr, circuit_items, qubits_of}
use Rattle.stab_commands.proofs.DistanceLaws.{refused_alike, unheard_handed}
use Rattle.stab_commands.proofs.distance.find_distance.Goals as goal

pub returns-in_err-errors-clause-refused : goal.returns-in_err-errors-clause-refused
returns-in_err-errors-clause-refused g c =
    refused_alike c.args.options.deterministic_only (circuit_items c.args.circuit.now) c.in_err-errors.field-0.0 c.from_residual.result c.from_residual.ensures.1 c.in_err-errors.ensures.refused

pub returns-in_err-errors-clause-reported : goal.returns-in_err-errors-clause-reported
returns-in_err-errors-clause-reported g c =
    unheard_handed c.args.options (circuit_items c.args.circuit.now) c.in_err-errors.field-0.0 c.from_residual.result (g.P.Progress.heard c.args.progress.now) c.from_residual.ensures.1

pub returns-in-Ok-clause-found : goal.returns-in-Ok-clause-found
returns-in-Ok-clause-found g c =
    let items = circuit_items c.args.circuit.now in
    let are = c.in_ok-errors.ensures.found in
    record { are = are; distance = c.in-Ok.ensures.distance (qubits_of items) items are.table }

pub returns-in-Ok-clause-reported : goal.returns-in-Ok-clause-reported
returns-in-Ok-clause-reported g c =
    let items = circuit_items c.args.circuit.now in
    let are = c.in_ok-errors.ensures.found in (
      c.in-Ok.answer,
      record {
        t = c.in_ok-errors.errors;
        are = are;
        found = c.in-Ok.ensures.distance (qubits_of items) items are.table;
        reported = c.in-Ok.ensures.reported (qubits_of items) items are.table;
      },
    )

pub returns-in-Err-clause-reported : goal.returns-in-Err-clause-reported
returns-in-Err-clause-reported g c =
    let items = circuit_items c.args.circuit.now in
    let are = c.in_ok-errors.ensures.found in
    inr (
      Err c.in-Err.refusal,
      record {
        t = c.in_ok-errors.errors;
        are = are;
        found = tt;
        reported = c.in-Err.ensures.reported (qubits_of items) items are.table;
      },
    )

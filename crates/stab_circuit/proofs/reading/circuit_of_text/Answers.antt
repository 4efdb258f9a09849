use Rattle.stab_circuit.proofs.Names.{arith, err_from_is_err_and}
use Rattle.stab_circuit.proofs.TextLemmas.{circuit_refused, circuit_placed, circuit_judged, circuit_answered}
use Rattle.stab_circuit.proofs.reading.circuit_of_text.Goals as goal

pub returns-in_err-items-clause-gives : goal.returns-in_err-items-clause-gives
returns-in_err-items-clause-gives c =
    let p = err_from_is_err_and c.from_residual.result c.from_residual.ensures.1 in
    rw (p.1, p.2) (circuit_refused c.args.text.now _ (omega arith) c.in_err-items.ensures.gives)

pub returns-in_err-items-clause-only : goal.returns-in_err-items-clause-only
returns-in_err-items-clause-only c =
    let p = err_from_is_err_and c.from_residual.result c.from_residual.ensures.1 in
    rw (p.1, p.2) (circuit_placed c.args.text.now _ (circuit_refused c.args.text.now _ (omega arith) c.in_err-items.ensures.gives))

pub returns-clause-gives : goal.returns-clause-gives
returns-clause-gives c = circuit_judged c.args.text.now c.in_ok-items.items.items _ (omega arith) c.in_ok-items.ensures.gives c.of_items.ensures.value c.of_items.ensures.refused

pub returns-clause-only : goal.returns-clause-only
returns-clause-only c =
    circuit_answered c.args.text.now c.of_items.result
    (circuit_judged c.args.text.now c.in_ok-items.items.items _ (omega arith) c.in_ok-items.ensures.gives c.of_items.ensures.value c.of_items.ensures.refused)

use Rattle.stab_circuit.proofs.Names.{arith, err_from_is_err_and}
use Rattle.stab_circuit.proofs.TextLemmas.{one_read, none_read, one_refused, item_placed}
use Rattle.stab_circuit.proofs.reading.read_item.Goals as goal

pub returns-in_err-items-clause-gives : goal.returns-in_err-items-clause-gives
returns-in_err-items-clause-gives c =
    let p = err_from_is_err_and c.from_residual.result c.from_residual.ensures.1 in
    rw (p.1, p.2) (one_refused c.args.text.now _ (omega arith) c.in_err-items.ensures.gives)

pub returns-in_err-items-clause-only : goal.returns-in_err-items-clause-only
returns-in_err-items-clause-only c =
    let p = err_from_is_err_and c.from_residual.result c.from_residual.ensures.1 in
    rw (p.1, p.2) (item_placed c.args.text.now _ (one_refused c.args.text.now _ (omega arith) c.in_err-items.ensures.gives))

pub returns-in-Some-clause-gives : goal.returns-in-Some-clause-gives
returns-in-Some-clause-gives c =
    one_read c.args.text.now c.in_ok-items.items.items c.pop.new.self.items c.in-Some.item c.in-Some.ensures.items (omega arith) c.in_ok-items.ensures.gives

pub returns-clause-gives : goal.returns-clause-gives
returns-clause-gives c = none_read c.args.text.now c.in_ok-items.items.items _ (omega (arith, c.in-None.ensures.cases.0, c.in_ok-items.items.ok.0)) (omega arith) c.in_ok-items.ensures.gives c.whole-in-None.ensures.value

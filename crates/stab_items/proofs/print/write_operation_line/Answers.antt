use Rattle.stab_items.proofs.Names.{◌++◌, codes, operation_text, err_from_is_err_and, writes_failed, writes_then}
use Rattle.stab_items.proofs.print.write_operation_line.Goals as goal

pub returns-in_err-write_margin : goal.returns-in_err-write_margin
returns-in_err-write_margin g c =
    let p = err_from_is_err_and c.from_residual.result c.from_residual.ensures.1 in
    record { writes = writes_failed (operation_text (record { kind = c.args.kind.now; tag = c.args.tag.now }) ++ codes "\n") p.1 p.2 c.in_err-write_margin.ensures.writes }

pub returns-in_err-write_operation : goal.returns-in_err-write_operation
returns-in_err-write_operation g c =
    let p = err_from_is_err_and c.from_residual-in_err-write_operation.result c.from_residual-in_err-write_operation.ensures.1 in
    record { writes = writes_then _ _ _ c.in_ok-write_margin.ensures.writes (writes_failed (codes "\n") p.1 p.2 c.in_err-write_operation.ensures.writes) }

pub returns : goal.returns
returns g c = record { writes = writes_then _ _ _ c.in_ok-write_margin.ensures.writes (writes_then _ _ _ c.in_ok-write_operation.ensures.writes c.write_all.ensures.writes) }

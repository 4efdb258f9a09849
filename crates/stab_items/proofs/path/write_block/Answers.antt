use Rattle.stab_items.proofs.Names.{codes, err_from_is_err_and, writes_failed, writes_then}
use Rattle.stab_items.proofs.path.write_block.Goals as goal

pub returns-in_err-write_number : goal.returns-in_err-write_number
returns-in_err-write_number g c =
    let p = err_from_is_err_and c.from_residual.result c.from_residual.ensures.1 in
    record { writes = writes_failed (codes "/") p.1 p.2 c.in_err-write_number.ensures.writes }

pub returns : goal.returns
returns g c = record { writes = writes_then _ _ _ c.in_ok-write_number.ensures.writes c.write_all.ensures.writes }

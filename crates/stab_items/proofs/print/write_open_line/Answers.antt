use Rattle.stab_items.proofs.Names.{◌++◌, codes, open_text, err_from_is_err_and, writes_failed, writes_then}
use Rattle.stab_items.proofs.print.write_open_line.Goals as goal

pub returns-in_err-write_margin : goal.returns-in_err-write_margin
returns-in_err-write_margin g c =
    let p = err_from_is_err_and c.from_residual.result c.from_residual.ensures.1 in
    record { writes = writes_failed (open_text c.args.count c.args.tag.now ++ codes "\n") p.1 p.2 c.in_err-write_margin.ensures.writes }

pub returns-in_err-write_opening : goal.returns-in_err-write_opening
returns-in_err-write_opening g c =
    let p = err_from_is_err_and c.from_residual-in_err-write_opening.result c.from_residual-in_err-write_opening.ensures.1 in
    record { writes = writes_then _ _ _ c.in_ok-write_margin.ensures.writes (writes_failed (codes "\n") p.1 p.2 c.in_err-write_opening.ensures.writes) }

pub returns : goal.returns
returns g c = record { writes = writes_then _ _ _ c.in_ok-write_margin.ensures.writes (writes_then _ _ _ c.in_ok-write_opening.ensures.writes c.write_all.ensures.writes) }

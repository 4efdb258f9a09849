use Rattle.stab_search.proofs.Names.{decimal, err_from_is_err_and, writes_failed, writes_then}
use Rattle.stab_search.proofs.writing.write_with.Goals as goal

pub returns-in_err-write_all : goal.returns-in_err-write_all
returns-in_err-write_all g c =
    let p = err_from_is_err_and c.from_residual.result c.from_residual.ensures.1 in
    record { writes = writes_failed (decimal c.args.number) p.1 p.2 c.in_err-write_all.ensures.writes }

pub returns : goal.returns
returns g c = record { writes = writes_then _ _ _ c.in_ok-write_all.ensures.writes c.write_number.ensures.writes }

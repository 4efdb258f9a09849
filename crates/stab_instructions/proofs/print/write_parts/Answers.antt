use Rattle.stab_instructions.proofs.Names.{◌++◌, err_from_is_err_and}
use Rattle.stab_instructions.proofs.WriteLemmas.{writes_failed, writes_then}
use Rattle.stab_instructions.proofs.print.write_parts.Goals as goal

pub returns-in_err-write_all : goal.returns-in_err-write_all
returns-in_err-write_all g c =
    let p = err_from_is_err_and c.from_residual.result c.from_residual.ensures.1 in
    record { writes = writes_failed (c.args.second.now ++ c.args.third.now) p.1 p.2 c.in_err-write_all.ensures.writes }

pub returns-in_err-write_all-2 : goal.returns-in_err-write_all-2
returns-in_err-write_all-2 g c =
    let p = err_from_is_err_and c.from_residual-in_err-write_all-2.result c.from_residual-in_err-write_all-2.ensures.1 in
    record { writes = writes_then _ _ _ c.in_ok-write_all.ensures.writes (writes_failed (c.args.third.now) p.1 p.2 c.in_err-write_all-2.ensures.writes) }

pub returns : goal.returns
returns g c = record { writes = writes_then _ _ _ c.in_ok-write_all.ensures.writes (writes_then _ _ _ c.in_ok-write_all-2.ensures.writes c.write_all-3.ensures.writes) }

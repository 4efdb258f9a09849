use Rattle.stab_instructions.proofs.Names.{codes, each_after, factor_text, err_from_is_err_and}
use Rattle.stab_instructions.proofs.WriteLemmas.{writes_failed, writes_then}
use Rattle.stab_instructions.proofs.print.write_factors.Goals as goal

pub returns-in_err-write : goal.returns-in_err-write
returns-in_err-write g c =
    let p = err_from_is_err_and c.from_residual.result c.from_residual.ensures.1 in
    record { writes = writes_failed (each_after (codes "*") factor_text c.args.more.now) p.1 p.2 c.in_err-write.ensures.writes }

pub returns : goal.returns
returns g c = record { writes = writes_then _ _ _ c.in_ok-write.ensures.writes c.write_each.ensures.writes }

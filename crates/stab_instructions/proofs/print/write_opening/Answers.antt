use Rattle.stab_instructions.proofs.Names.{◌++◌, codes, decimal, err_from_is_err_and}
use Rattle.stab_instructions.proofs.WriteLemmas.{writes_failed, writes_then}
use Rattle.stab_instructions.proofs.print.write_opening.Goals as goal

pub returns-in_err-write_head : goal.returns-in_err-write_head
returns-in_err-write_head g c =
    let p = err_from_is_err_and c.from_residual.result c.from_residual.ensures.1 in
    record { writes = writes_failed (codes " " ++ (decimal c.args.count ++ codes " {")) p.1 p.2 c.in_err-write_head.ensures.writes }

pub returns : goal.returns
returns g c = record { writes = writes_then _ _ _ c.in_ok-write_head.ensures.writes (rw c.number.ensures.value at c.write_number.ensures.writes) }

use Rattle.stab_script.proofs.Names.{codes, err_from_is_err_and, writes_failed, writes_then}
use Rattle.stab_script.proofs.reply.Reply.write_row.Goals as goal

pub returns-in_err-write_text : goal.returns-in_err-write_text
returns-in_err-write_text c =
    let p = err_from_is_err_and c.from_residual.result c.from_residual.ensures.1 in
    record { writes = writes_failed (codes "\n") p.1 p.2 c.in_err-write_text.ensures.writes }

pub returns : goal.returns
returns c = record { writes = writes_then _ _ _ c.in_ok-write_text.ensures.writes c.write_all.ensures.writes }

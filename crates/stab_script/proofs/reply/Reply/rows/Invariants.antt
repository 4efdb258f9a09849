use Rattle.stab_script.proofs.Names.{◌≡◌, take, lines_of}
use Rattle.stab_script.proofs.reply.Reply.rows.Given as goal

abbrev pub invariant-loop-row : goal.invariant-loop-row
invariant-loop-row l = l.reply.written ≡ lines_of (take l.row-index l.rows)

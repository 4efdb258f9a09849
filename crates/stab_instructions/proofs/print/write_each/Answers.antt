use Rattle.stab_instructions.proofs.Names.{◌++◌, ◌+◌, take, drop, each_after, err_from_is_err_and, took_more}
use Rattle.stab_instructions.proofs.PrintLemmas.{each_after_position, each_after_more}
use Rattle.stab_instructions.proofs.WriteLemmas.{writes_failed, writes_then, writes_as, took_as}
use Rattle.stab_instructions.proofs.print.write_each.Goals as goal

pub returns-in_err-write_all : goal.returns-in_err-write_all
returns-in_err-write_all g c =
    let p = err_from_is_err_and c.from_residual.result c.from_residual.ensures.1 in
    record { writes = writes_as _ _ _ (each_after_position c.args.separator.now g.W.Word.text c.args.words.now c.loop-word.word-index c.word-item.result c.loop-word-test.true c.word-item.is) (writes_then {front = each_after c.args.separator.now g.W.Word.text (take c.loop-word.word-index c.args.words.now)} _ _ _ c.loop-word.invariant (writes_failed (g.W.Word.text c.word-item.result ++ each_after c.args.separator.now g.W.Word.text (drop (c.loop-word.word-index + 1) c.args.words.now)) p.1 p.2 c.in_err-write_all.ensures.writes)) }

pub returns-in_err-write : goal.returns-in_err-write
returns-in_err-write g c =
    let p = err_from_is_err_and c.from_residual-in_err-write.result c.from_residual-in_err-write.ensures.1 in
    record { writes = writes_as _ _ _ (each_after_position c.args.separator.now g.W.Word.text c.args.words.now c.loop-word.word-index c.word-item.result c.loop-word-test.true c.word-item.is) (writes_then {front = each_after c.args.separator.now g.W.Word.text (take c.loop-word.word-index c.args.words.now)} _ _ _ c.loop-word.invariant (writes_then _ _ _ c.in_ok-write_all.ensures.writes (writes_failed (each_after c.args.separator.now g.W.Word.text (drop (c.loop-word.word-index + 1) c.args.words.now)) p.1 p.2 c.in_err-write.ensures.writes))) }

pub loop-word-preserved : goal.loop-word-preserved
loop-word-preserved g c =
    took_as (each_after_more c.args.separator.now g.W.Word.text c.args.words.now c.loop-word.word-index c.word-item.result c.loop-word-test.true c.word-item.is)
    (took_more _ _ c.loop-word.invariant (took_more _ _ c.in_ok-write_all.ensures.writes c.in_ok-write.ensures.writes))

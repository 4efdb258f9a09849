use Rattle.stab_instructions.proofs.Names.{decimal, err_from_is_err_and}
use Rattle.stab_instructions.proofs.WriteLemmas.{writes_failed, writes_then}
use Rattle.stab_instructions.proofs.print.PairWord.write.Goals as goal

pub returns-in_err-write_all : goal.returns-in_err-write_all
returns-in_err-write_all g c =
    let p = err_from_is_err_and c.from_residual-in_err-write_all.result c.from_residual-in_err-write_all.ensures.1 in
    record { writes = writes_then _ _ _ (rw c.first.ensures.value at c.in_ok-write.ensures.writes) (writes_failed (decimal c.args.self.now.1) p.1 p.2 c.in_err-write_all.ensures.writes) }

pub returns : goal.returns
returns g c = record { writes = writes_then _ _ _ (rw c.first.ensures.value at c.in_ok-write.ensures.writes) (writes_then _ _ _ c.in_ok-write_all.ensures.writes (rw c.second.ensures.value at c.write-2.ensures.writes)) }

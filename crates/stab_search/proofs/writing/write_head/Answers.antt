use Rattle.stab_search.proofs.Names.{◌++◌, codes, decimal, err_from_is_err_and, writes_failed, writes_then}
use Rattle.stab_search.proofs.writing.write_head.Goals as goal

pub returns-in_err-write_with : goal.returns-in_err-write_with
returns-in_err-write_with g c =
    let p = err_from_is_err_and c.from_residual.result c.from_residual.ensures.1 in
    let later = (codes " " ++ decimal c.args.clauses) ++ ((codes " " ++ decimal c.args.top) ++ codes "\n") in
    record { writes = writes_failed later p.1 p.2 c.in_err-write_with.ensures.writes }

pub returns-in_err-write_with-2 : goal.returns-in_err-write_with-2
returns-in_err-write_with-2 g c =
    let p = err_from_is_err_and c.from_residual-in_err-write_with-2.result c.from_residual-in_err-write_with-2.ensures.1 in
    let later = (codes " " ++ decimal c.args.top) ++ codes "\n" in
    record { writes = writes_then _ _ ((codes " " ++ decimal c.args.clauses) ++ later) c.in_ok-write_with.ensures.writes (writes_failed later p.1 p.2 c.in_err-write_with-2.ensures.writes) }

pub returns-in_err-write_with-3 : goal.returns-in_err-write_with-3
returns-in_err-write_with-3 g c =
    let p = err_from_is_err_and c.from_residual-in_err-write_with-3.result c.from_residual-in_err-write_with-3.ensures.1 in
    let last = (codes " " ++ decimal c.args.top) ++ codes "\n" in
    record {
      writes = writes_then _ _ ((codes " " ++ decimal c.args.clauses) ++ last) c.in_ok-write_with.ensures.writes
          (writes_then _ _ last c.in_ok-write_with-2.ensures.writes (writes_failed (codes "\n") p.1 p.2 c.in_err-write_with-3.ensures.writes));
    }

pub returns : goal.returns
returns g c =
    let last = (codes " " ++ decimal c.args.top) ++ codes "\n" in
    record {
      writes = writes_then _ _ ((codes " " ++ decimal c.args.clauses) ++ last) c.in_ok-write_with.ensures.writes
          (writes_then _ _ last c.in_ok-write_with-2.ensures.writes (writes_then _ _ (codes "\n") c.in_ok-write_with-3.ensures.writes c.write_all.ensures.writes));
    }

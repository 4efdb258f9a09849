use Rattle.stab_search.proofs.Names.{◌++◌, codes, flat_map, literal_text, err_from_is_err_and, writes_failed, writes_then}
use Rattle.stab_search.proofs.writing.write_clause.Goals as goal

pub returns-in_err-write_number : goal.returns-in_err-write_number
returns-in_err-write_number g c =
    let p = err_from_is_err_and c.from_residual.result c.from_residual.ensures.1 in
    record { writes = writes_failed (flat_map literal_text c.args.clause.now ++ codes " 0\n") p.1 p.2 c.in_err-write_number.ensures.writes }

pub returns-in_err-write_literals : goal.returns-in_err-write_literals
returns-in_err-write_literals g c =
    let p = err_from_is_err_and c.from_residual-in_err-write_literals.result c.from_residual-in_err-write_literals.ensures.1 in
    record { writes = writes_then _ _ (flat_map literal_text c.args.clause.now ++ codes " 0\n") c.in_ok-write_number.ensures.writes (writes_failed (codes " 0\n") p.1 p.2 c.in_err-write_literals.ensures.writes) }

pub returns : goal.returns
returns g c =
    record { writes = writes_then _ _ (flat_map literal_text c.args.clause.now ++ codes " 0\n") c.in_ok-write_number.ensures.writes (writes_then _ _ (codes " 0\n") c.in_ok-write_literals.ensures.writes c.write_all.ensures.writes) }

use Rattle.stab_search.proofs.Names.{◌+◌, ◌-◌, flat_map, map, range_with_len, clause_text, without, err_from_is_err_and, written_more, written_failed}
use Rattle.stab_search.proofs.LeftLemmas.{numbers-left}
use Rattle.stab_search.proofs.writing.write_errors.Goals as goal

pub errors-preserved : goal.errors-preserved
errors-preserved g c =
    let whole = flat_map (clause_text 1) (map without (range_with_len 0 c.args.errors)) in
    let left = flat_map (clause_text 1) (map without (range_with_len c.errors.number (c.args.errors - c.errors.number))) in
    let piece = clause_text 1 (without c.errors.number) in
    let rest = flat_map (clause_text 1) (map without (range_with_len (c.errors.number + 1) (c.args.errors - (c.errors.number + 1)))) in
    written_more whole left piece rest c.errors.invariant (numbers-left (clause_text 1) without c.errors.number c.args.errors c.errors-test.true) c.in_ok-write_clause.ensures.writes

pub returns-in_err-write_clause : goal.returns-in_err-write_clause
returns-in_err-write_clause g c =
    let p = err_from_is_err_and c.from_residual.result c.from_residual.ensures.1 in
    let whole = flat_map (clause_text 1) (map without (range_with_len 0 c.args.errors)) in
    let left = flat_map (clause_text 1) (map without (range_with_len c.errors.number (c.args.errors - c.errors.number))) in
    let piece = clause_text 1 (without c.errors.number) in
    let rest = flat_map (clause_text 1) (map without (range_with_len (c.errors.number + 1) (c.args.errors - (c.errors.number + 1)))) in
    record { writes = written_failed whole left piece rest c.errors.invariant (numbers-left (clause_text 1) without c.errors.number c.args.errors c.errors-test.true) p.1 p.2 c.in_err-write_clause.ensures.writes }

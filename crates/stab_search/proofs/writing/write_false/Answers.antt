use Rattle.stab_search.proofs.Names.{◌+◌, drop, get_or, flat_map, map, clause_text, is_false, err_from_is_err_and, written_more, written_failed}
use Rattle.stab_search.proofs.LeftLemmas.{made-left}
use Rattle.stab_search.proofs.writing.write_false.Goals as goal

pub each-preserved : goal.each-preserved
each-preserved g c =
    let whole = flat_map (clause_text c.args.weight) (map is_false c.args.variables.now) in
    let left = flat_map (clause_text c.args.weight) (map is_false (drop c.each.variable-index c.args.variables.now)) in
    let piece = clause_text c.args.weight (is_false (get_or c.args.variables.now c.each.variable-index 0)) in
    let rest = flat_map (clause_text c.args.weight) (map is_false (drop (c.each.variable-index + 1) c.args.variables.now)) in
    written_more whole left piece rest c.each.invariant (made-left (clause_text c.args.weight) is_false c.args.variables.now c.each.variable-index 0 c.each-test.true) c.in_ok-write_clause.ensures.writes

pub returns-in_err-write_clause : goal.returns-in_err-write_clause
returns-in_err-write_clause g c =
    let p = err_from_is_err_and c.from_residual.result c.from_residual.ensures.1 in
    let whole = flat_map (clause_text c.args.weight) (map is_false c.args.variables.now) in
    let left = flat_map (clause_text c.args.weight) (map is_false (drop c.each.variable-index c.args.variables.now)) in
    let piece = clause_text c.args.weight (is_false (get_or c.args.variables.now c.each.variable-index 0)) in
    let rest = flat_map (clause_text c.args.weight) (map is_false (drop (c.each.variable-index + 1) c.args.variables.now)) in
    record { writes = written_failed whole left piece rest c.each.invariant (made-left (clause_text c.args.weight) is_false c.args.variables.now c.each.variable-index 0 c.each-test.true) p.1 p.2 c.in_err-write_clause.ensures.writes }

use Rattle.stab_search.proofs.Names.{◌+◌, drop, flat_map, map, clause_text, err_from_is_err_and, written_more, written_failed}
use Rattle.stab_search.proofs.LeftLemmas.{made-left}
use Rattle.stab_search.proofs.writing.write_clauses.Goals as goal

pub each-preserved : goal.each-preserved
each-preserved g c =
    let whole = flat_map (clause_text c.args.weight) (map (λ l. l.now) c.args.clauses.now) in
    let left = flat_map (clause_text c.args.weight) (map (λ l. l.now) (drop c.each.clause-index c.args.clauses.now)) in
    let rest = flat_map (clause_text c.args.weight) (map (λ l. l.now) (drop (c.each.clause-index + 1) c.args.clauses.now)) in
    written_more whole left _ rest c.each.invariant (made-left (clause_text c.args.weight) (λ l. l.now) c.args.clauses.now c.each.clause-index _ c.each-test.true) c.in_ok-write_clause.ensures.writes

pub returns-in_err-write_clause : goal.returns-in_err-write_clause
returns-in_err-write_clause g c =
    let p = err_from_is_err_and c.from_residual.result c.from_residual.ensures.1 in
    let whole = flat_map (clause_text c.args.weight) (map (λ l. l.now) c.args.clauses.now) in
    let left = flat_map (clause_text c.args.weight) (map (λ l. l.now) (drop c.each.clause-index c.args.clauses.now)) in
    let rest = flat_map (clause_text c.args.weight) (map (λ l. l.now) (drop (c.each.clause-index + 1) c.args.clauses.now)) in
    record { writes = written_failed whole left _ rest c.each.invariant (made-left (clause_text c.args.weight) (λ l. l.now) c.args.clauses.now c.each.clause-index _ c.each-test.true) p.1 p.2 c.in_err-write_clause.ensures.writes }

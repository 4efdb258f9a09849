use Rattle.stab_search.proofs.Names.{◌+◌, drop, flat_map, clause_text, sum_clauses, err_from_is_err_and, written_more, written_failed}
use Rattle.stab_search.proofs.LeftLemmas.{several-left}
use Rattle.stab_search.proofs.writing.write_sums.Goals as goal

pub each-preserved : goal.each-preserved
each-preserved g c =
    let whole = flat_map (clause_text c.args.weight) (flat_map sum_clauses c.args.sums.now) in
    let left = flat_map (clause_text c.args.weight) (flat_map sum_clauses (drop c.each.sum-index c.args.sums.now)) in
    let rest = flat_map (clause_text c.args.weight) (flat_map sum_clauses (drop (c.each.sum-index + 1) c.args.sums.now)) in
    written_more whole left _ rest c.each.invariant (several-left (clause_text c.args.weight) sum_clauses c.args.sums.now c.each.sum-index _ c.each-test.true) c.in_ok-write_sum.ensures.writes

pub returns-in_err-write_sum : goal.returns-in_err-write_sum
returns-in_err-write_sum g c =
    let p = err_from_is_err_and c.from_residual.result c.from_residual.ensures.1 in
    let whole = flat_map (clause_text c.args.weight) (flat_map sum_clauses c.args.sums.now) in
    let left = flat_map (clause_text c.args.weight) (flat_map sum_clauses (drop c.each.sum-index c.args.sums.now)) in
    let rest = flat_map (clause_text c.args.weight) (flat_map sum_clauses (drop (c.each.sum-index + 1) c.args.sums.now)) in
    record { writes = written_failed whole left _ rest c.each.invariant (several-left (clause_text c.args.weight) sum_clauses c.args.sums.now c.each.sum-index _ c.each-test.true) p.1 p.2 c.in_err-write_sum.ensures.writes }

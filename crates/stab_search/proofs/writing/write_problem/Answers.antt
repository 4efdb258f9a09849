use Rattle.stab_search.proofs.Names.{◌≡◌, ◌+◌, ◌++◌, arith, rules, subst, flat_map, length, clause_text, problem_head, clauses_of, WritesAll, err_from_is_err_and, writes_failed, writes_then}
use Rattle.std.proofs.Common.{◌*◌}
use Rattle.stab_search.proofs.TextLemmas.{text-counted}
use Rattle.stab_search.proofs.writing.write_problem.Goals as goal

pub returns-in_err-write_head : goal.returns-in_err-write_head
returns-in_err-write_head g c =
    let p = err_from_is_err_and c.from_residual.result c.from_residual.ensures.1 in
    let problem = c.args.problem.now in
    let sums : c.len.result ≡ length problem.sums.items = search rules in
    let sums' : c.len-2.result ≡ length problem.sums.items = search rules in
    let undetected : c.len-3.result ≡ length problem.undetected.items = search rules in
    let soft = flat_map (clause_text 1) (clauses_of problem).soft in
    let hard = flat_map (clause_text (problem.errors + 1)) (clauses_of problem).hard in
    record {
      writes = subst (λ l. WritesAll (g.O.Output.seen c.args.out.now) (g.O.Output.seen c.write_head.new.out) l c.from_residual.result) (text-counted problem _ _ (omega (arith, sums)) (omega (arith, sums', undetected)))
          (writes_failed (soft ++ hard) p.1 p.2 c.in_err-write_head.ensures.writes);
    }

pub returns-in_err-write_errors : goal.returns-in_err-write_errors
returns-in_err-write_errors g c =
    let p = err_from_is_err_and c.from_residual-in_err-write_errors.result c.from_residual-in_err-write_errors.ensures.1 in
    let problem = c.args.problem.now in
    let sums : c.len.result ≡ length problem.sums.items = search rules in
    let sums' : c.len-2.result ≡ length problem.sums.items = search rules in
    let undetected : c.len-3.result ≡ length problem.undetected.items = search rules in
    let soft = flat_map (clause_text 1) (clauses_of problem).soft in
    let hard = flat_map (clause_text (problem.errors + 1)) (clauses_of problem).hard in
    record {
      writes = subst (λ l. WritesAll (g.O.Output.seen c.args.out.now) (g.O.Output.seen c.write_errors.new.out) l c.from_residual-in_err-write_errors.result) (text-counted problem _ _ (omega (arith, sums)) (omega (arith, sums', undetected)))
          (writes_then _ _ (soft ++ hard) c.in_ok-write_head.ensures.writes (writes_failed hard p.1 p.2 c.in_err-write_errors.ensures.writes));
    }

pub returns : goal.returns
returns g c =
    let problem = c.args.problem.now in
    let sums : c.len.result ≡ length problem.sums.items = search rules in
    let sums' : c.len-2.result ≡ length problem.sums.items = search rules in
    let undetected : c.len-3.result ≡ length problem.undetected.items = search rules in
    let soft = flat_map (clause_text 1) (clauses_of problem).soft in
    let hard = flat_map (clause_text (problem.errors + 1)) (clauses_of problem).hard in
    record {
      writes = subst (λ l. WritesAll (g.O.Output.seen c.args.out.now) (g.O.Output.seen c.write_hard.new.out) l c.write_hard.result) (text-counted problem _ _ (omega (arith, sums)) (omega (arith, sums', undetected)))
          (writes_then _ _ (soft ++ hard) c.in_ok-write_head.ensures.writes (writes_then _ _ hard c.in_ok-write_errors.ensures.writes c.write_hard.ensures.writes));
    }

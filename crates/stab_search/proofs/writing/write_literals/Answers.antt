use Rattle.stab_search.proofs.Names.{◌+◌, drop, flat_map, literal_text, err_from_is_err_and, written_more, written_failed}
use Rattle.stab_search.proofs.LeftLemmas.{items-left}
use Rattle.stab_search.proofs.writing.write_literals.Goals as goal

pub each-preserved : goal.each-preserved
each-preserved g c =
    let whole = flat_map literal_text c.args.literals.now in
    let left = flat_map literal_text (drop c.each.literal-index c.args.literals.now) in
    let rest = flat_map literal_text (drop (c.each.literal-index + 1) c.args.literals.now) in
    written_more whole left _ rest c.each.invariant (items-left literal_text c.args.literals.now c.each.literal-index _ c.each-test.true) c.in_ok-write_literal.ensures.writes

pub returns-in_err-write_literal : goal.returns-in_err-write_literal
returns-in_err-write_literal g c =
    let p = err_from_is_err_and c.from_residual.result c.from_residual.ensures.1 in
    let whole = flat_map literal_text c.args.literals.now in
    let left = flat_map literal_text (drop c.each.literal-index c.args.literals.now) in
    let rest = flat_map literal_text (drop (c.each.literal-index + 1) c.args.literals.now) in
    record { writes = written_failed whole left _ rest c.each.invariant (items-left literal_text c.args.literals.now c.each.literal-index _ c.each-test.true) p.1 p.2 c.in_err-write_literal.ensures.writes }

use Rattle.stab_script.proofs.Names.{◌++◌, codes, refl, err_from_is_err_and, writes_as, writes_failed, writes_then, circuit_items, turn_shown, string_text}
use Rattle.stab_script.proofs.LineLemmas.{turn_text}
use Rattle.stab_script.proofs.lines.write_turn.Goals as goal

pub returns-in_err-write_where-clause-writes : goal.returns-in_err-write_where-clause-writes
returns-in_err-write_where-clause-writes g c =
    let t = turn_shown c.args.turn.now in
    let text = turn_text (circuit_items c.args.circuit.now) t c.saturating_sub.result c.next_path-path.result t.string c.saturating_sub.ensures c.next_path-path.ensures.value refl in
    let p = err_from_is_err_and c.from_residual.result c.from_residual.ensures.1 in
    writes_as (g.O.Output.seen c.args.out.now) (g.O.Output.seen c.write_where.new.out) c.from_residual.result text
    (writes_failed (string_text t.string ++ codes "\n") p.1 p.2 c.in_err-write_where.ensures.writes)

pub returns-in_err-write_string-clause-writes : goal.returns-in_err-write_string-clause-writes
returns-in_err-write_string-clause-writes g c =
    let letters = c.as_slice.result.now in
    let text = turn_text (circuit_items c.args.circuit.now) (turn_shown c.args.turn.now) c.saturating_sub.result c.next_path-path.result letters c.saturating_sub.ensures c.next_path-path.ensures.value c.as_slice.ensures.value in
    let p = err_from_is_err_and c.from_residual-in_err-write_string.result c.from_residual-in_err-write_string.ensures.1 in
    writes_as (g.O.Output.seen c.args.out.now) (g.O.Output.seen c.write_string.new.out) c.from_residual-in_err-write_string.result text
    (writes_then _ _ _ c.in_ok-write_where.ensures.writes (writes_failed (codes "\n") p.1 p.2 c.in_err-write_string.ensures.writes))

pub returns-clause-writes : goal.returns-clause-writes
returns-clause-writes g c =
    let letters = c.as_slice.result.now in
    let text = turn_text (circuit_items c.args.circuit.now) (turn_shown c.args.turn.now) c.saturating_sub.result c.next_path-path.result letters c.saturating_sub.ensures c.next_path-path.ensures.value c.as_slice.ensures.value in
    writes_as (g.O.Output.seen c.args.out.now) (g.O.Output.seen c.write_all.new.out) c.write_all.result text
    (writes_then _ _ _ c.in_ok-write_where.ensures.writes (writes_then {front = string_text letters} _ _ _ c.in_ok-write_string.ensures.writes c.write_all.ensures.writes))

use Rattle.stab_script.proofs.Names.{◌∙◌, ◌+◌, drop, flat_map, map, wrote_part, wrote_and_failed, failed_on, circuit_items, turn_shown, turn_line}
use Rattle.stab_script.proofs.LineLemmas.{turns-drop}
use Rattle.stab_script.proofs.lines.write_turns.Goals as goal

pub turns-preserved : goal.turns-preserved
turns-preserved g c =
    let line = turn_line (circuit_items c.args.circuit.now) in
    let turns = c.args.turns.now in
    let k = c.turns.turn-index in
    let t = c.turn-item.result in (
      c.in_ok-write_turn.ensures.items ∙ c.turns.invariant.0,
      wrote_part (flat_map line (map turn_shown turns)) (flat_map line (map turn_shown (drop k turns))) (line (turn_shown t)) (flat_map line (map turn_shown (drop (k + 1) turns)))
          (turns-drop line turn_shown turns k t c.turns-test.true c.turn-item.is) c.turns.invariant.1 c.in_ok-write_turn.ensures.writes,
    )

pub returns-in_err-write_turn : goal.returns-in_err-write_turn
returns-in_err-write_turn g c =
    let line = turn_line (circuit_items c.args.circuit.now) in
    let turns = c.args.turns.now in
    let all = flat_map line (map turn_shown turns) in
    let k = c.turns.turn-index in
    let t = c.turn-item.result in record {
      writes = failed_on (g.O.Output.seen c.args.out.now) (g.O.Output.seen c.write_turn.new.out) all c.in_err-write_turn.field-0.0 c.from_residual.result c.from_residual.ensures.1
          c.in_err-write_turn.ensures.writes.0
          (wrote_and_failed all (flat_map line (map turn_shown (drop k turns))) (line (turn_shown t)) (flat_map line (map turn_shown (drop (k + 1) turns)))
          (turns-drop line turn_shown turns k t c.turns-test.true c.turn-item.is) c.turns.invariant.1 c.in_err-write_turn.ensures.writes.1);
    }

use Rattle.stab_script.proofs.Names.{◌≡◌, drop, flat_map, map, WroteUpTo, circuit_items, turn_shown, turn_line}
use Rattle.stab_script.proofs.lines.write_turns.Given as goal

abbrev pub invariant-turns : goal.invariant-turns
invariant-turns g l =
    let line = turn_line (circuit_items l.circuit) in
    (l.items ≡ l.circuit) × WroteUpTo (g.O.Output.seen l.initial.out) (g.O.Output.seen l.out) (flat_map line (map turn_shown l.turns)) (flat_map line (map turn_shown (drop l.turn-index l.turns)))

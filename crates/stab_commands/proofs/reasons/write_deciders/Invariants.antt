use Rattle.stab_commands.proofs.Names.{ℕ, List, drop, flat_map, WroteUpTo, circuit_items, decider_text, coin_at}
use Rattle.stab_commands.proofs.reasons.write_deciders.Given as goal

abbrev pub invariant-loop-position : goal.invariant-loop-position
invariant-loop-position g l =
    let items = circuit_items l.circuit in
    let text : ℕ → List ℕ = λ k. decider_text items (coin_at items k) in
    WroteUpTo (g.O.Output.seen l.initial.out) (g.O.Output.seen l.out) (flat_map text l.positions) (flat_map text (drop l.position-index l.positions))

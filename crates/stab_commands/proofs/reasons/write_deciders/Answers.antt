use Rattle.stab_commands.proofs.Names.{◌≡◌, ◌∙◌, ◌++◌, ◌+◌, ℕ, List, sym, ap, drop, get_or, codes, decimal, flat_map, failed_on, wrote_part, wrote_and_failed, path_text, circuit_items, decider_text, coin_at}
use Rattle.stab_report.proofs.FaultLineLaws.{flat-drop}
use Rattle.stab_commands.proofs.reasons.write_deciders.Goals as goal

pub loop-position-preserved : goal.loop-position-preserved
loop-position-preserved g c =
    let items = circuit_items c.args.circuit.now in
    let text : ℕ → List ℕ = λ k. decider_text items (coin_at items k) in
    let positions = c.args.positions.now in
    let part = codes " c" ++ (decimal c.decider.result.coin ++ (codes "@" ++ path_text c.decider.result.path)) in
    let rest = flat_map text (drop (c.loop-position.position-index + 1) positions) in
    let is : part ≡ text (get_or positions c.loop-position.position-index 0) = λ i. codes " c" ++ (decimal ((c.decider.ensures.coin ∙ c.placed_coin-coin.ensures.coin) i) ++ (codes "@" ++ path_text ((c.decider.ensures.path ∙ c.placed_coin-coin.ensures.path) i))) in
    let here = flat-drop text positions c.loop-position.position-index 0 c.loop-position-test.true ∙ ap (λ l. l ++ rest) (sym is) in
    wrote_part (flat_map text positions) (flat_map text (drop c.loop-position.position-index positions)) part rest here c.loop-position.invariant c.in_ok-write_decider.ensures.writes

pub returns-in_err-write_decider : goal.returns-in_err-write_decider
returns-in_err-write_decider g c =
    let items = circuit_items c.args.circuit.now in
    let text : ℕ → List ℕ = λ k. decider_text items (coin_at items k) in
    let positions = c.args.positions.now in
    let part = codes " c" ++ (decimal c.decider.result.coin ++ (codes "@" ++ path_text c.decider.result.path)) in
    let rest = flat_map text (drop (c.loop-position.position-index + 1) positions) in
    let is : part ≡ text (get_or positions c.loop-position.position-index 0) = λ i. codes " c" ++ (decimal ((c.decider.ensures.coin ∙ c.placed_coin-coin.ensures.coin) i) ++ (codes "@" ++ path_text ((c.decider.ensures.path ∙ c.placed_coin-coin.ensures.path) i))) in
    let here = flat-drop text positions c.loop-position.position-index 0 c.loop-position-test.true ∙ ap (λ l. l ++ rest) (sym is) in
    record {
      writes = failed_on (g.O.Output.seen c.args.out.now) (g.O.Output.seen c.write_decider.new.out) (flat_map text positions) c.in_err-write_decider.field-0.0 c.from_residual.result c.from_residual.ensures.1
          c.in_err-write_decider.ensures.writes.0
          (wrote_and_failed (flat_map text positions) (flat_map text (drop c.loop-position.position-index positions)) part rest here c.loop-position.invariant c.in_err-write_decider.ensures.writes.1);
    }

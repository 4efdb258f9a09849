use Rattle.stab_commands.proofs.Names.{◌≡◌, ◌<◌, ◌∙◌, ap, sym, subst, length, get_or, qubits_of, unroll, circuit_items, step_of_coin, path_at, coin_at}
use Rattle.stab_commands.proofs.CoinRowLaws.{step_of_position, step_within}
use Rattle.stab_report.proofs.SingleErrorTextLaws.{path_here}
use Rattle.stab_commands.proofs.coin_rows.placed_coin.Goals as goal

pub item_of_step-path-requires-clause-in_range : goal.item_of_step-path-requires-clause-in_range
item_of_step-path-requires-clause-in_range c =
    let items = circuit_items c.args.circuit.now in
    subst (λ l. get_or l c.args.position 0 < length (unroll items)) (sym c.steps.ensures.value) (step_within (qubits_of items) items c.args.runs.now c.args.position c.requires.runs c.requires.in_range)

pub returns-clause-path : goal.returns-clause-path
returns-clause-path c =
    let items = circuit_items c.args.circuit.now in
    let position = c.args.position in
    let item = c.item_of_step-path in
    let step : get_or c.steps.result.now position 0 ≡ step_of_coin (unroll items) (coin_at items position) =
    ap (λ l. get_or l position 0) c.steps.ensures.value
    ∙ step_of_position (qubits_of items) items c.args.runs.now position c.requires.runs c.requires.in_range
    ∙ ap (λ l. step_of_coin (unroll items) (get_or l position 0)) c.requires.runs.numbers in
    sym (path_here items (get_or c.steps.result.now position 0) item.result.steps item.result.path item.ensures.some item.ensures.path) ∙ ap (path_at items) step

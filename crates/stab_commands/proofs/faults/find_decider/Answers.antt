use Rattle.stab_commands.proofs.Names.{◌≡◌, ◌<◌, ◌∙◌, ◌∷◌, All, ap, sym, subst, length, map, drop, get_or, arith, qubits_of, unroll, circuit_items, step_of_coin, AreCoinRuns, listed-at, IsFirstDecider, path_at, coin_at, decides}
use Rattle.stab_report.proofs.SingleErrorBitLaws.{below}
use Rattle.stab_report.proofs.MemoryLaws.{memory_alone, passed_memory, passed_no_value}
use Rattle.stab_commands.proofs.ReasonLaws.{first_found, some_found}
use Rattle.stab_commands.proofs.faults.find_decider.Goals as goal

pub bounds-positions-0 : goal.bounds-positions-0
bounds-positions-0 c =
    let items = circuit_items c.args.circuit.now in
    let number = c.args.number in
    let lists = c.in_ok-lists.lists.items in
    let less : number < length lists = omega (arith, c.requires.in_range, c.in_ok-lists.ensures.size) in
    let found = sym (c.as_slice-positions.ensures.value ∙ listed-at lists number c.index.result.now less c.index.ensures ∙ c.in_ok-lists.ensures.value number c.requires.in_range) in
    let runs : AreCoinRuns (qubits_of items) items c.in_ok-runs.runs = rw c.qubits.ensures.value at c.in_ok-runs.ensures.runs in
    some_found items c.in_ok-runs.runs runs number c.as_slice-positions.result.now found c.requires.not_deterministic

pub placed_coin-coin-requires-clause-in_range : goal.placed_coin-coin-requires-clause-in_range
placed_coin-coin-requires-clause-in_range c =
    let items = circuit_items c.args.circuit.now in
    let number = c.args.number in
    let lists = c.in_ok-lists.lists.items in
    let less : number < length lists = omega (arith, c.requires.in_range, c.in_ok-lists.ensures.size) in
    let found = sym (c.as_slice-positions.ensures.value ∙ listed-at lists number c.index.result.now less c.index.ensures ∙ c.in_ok-lists.ensures.value number c.requires.in_range) in
    let runs : AreCoinRuns (qubits_of items) items c.in_ok-runs.runs = rw c.qubits.ensures.value at c.in_ok-runs.ensures.runs in
    let count = length c.in_ok-runs.runs.numbers.items in
    let all : All (λ k. k < count) c.as_slice-positions.result.now = subst (All (λ k. k < count)) found (below (decides items number) 0 count count (omega arith)) in
    all 0 0 (some_found items c.in_ok-runs.runs runs number c.as_slice-positions.result.now found c.requires.not_deterministic)

pub returns-clause-value : goal.returns-clause-value
returns-clause-value c =
    let items = circuit_items c.args.circuit.now in
    let number = c.args.number in
    let lists = c.in_ok-lists.lists.items in
    let positions = c.as_slice-positions.result.now in
    let less : number < length lists = omega (arith, c.requires.in_range, c.in_ok-lists.ensures.size) in
    let found = sym (c.as_slice-positions.ensures.value ∙ listed-at lists number c.index.result.now less c.index.ensures ∙ c.in_ok-lists.ensures.value number c.requires.in_range) in
    let runs : AreCoinRuns (qubits_of items) items c.in_ok-runs.runs = rw c.qubits.ensures.value at c.in_ok-runs.ensures.runs in
    let some = some_found items c.in_ok-runs.runs runs number positions found c.requires.not_deterministic in
    let coin : c.decider.result.coin ≡ coin_at items (get_or positions 0 0) = c.decider.ensures.coin ∙ c.placed_coin-coin.ensures.coin in
    record {
      table = runs.table;
      others = map (coin_at items) (drop 1 positions);
      first = first_found items c.in_ok-runs.runs runs number positions found some ∙ ap (λ t. t ∷ map (coin_at items) (drop 1 positions)) (sym coin);
      path = ap (λ t. path_at items (step_of_coin (unroll items) t)) coin ∙ sym (c.decider.ensures.path ∙ c.placed_coin-coin.ensures.path);
    }

pub returns-in_err-runs : goal.returns-in_err-runs
returns-in_err-runs c =
    let items = circuit_items c.args.circuit.now in
    let memory = memory_alone (Unit {0}) c.in_err-runs.field-0.0 c.qubits.result items c.requires.checked c.qubits.ensures.value c.in_err-runs.ensures.refused in
    record {
      value = passed_no_value (IsFirstDecider items c.args.number) c.in_err-runs.field-0.0 c.from_residual.result c.from_residual.ensures.1;
      err = passed_memory c.in_err-runs.field-0.0 c.from_residual.result c.from_residual.ensures.1 memory;
    }

use Rattle.stab_commands.proofs.Names.{◌≡◌, refl, ◌∙◌, ap, false, length, map, get_or, unroll, circuit_items, run_of, one_positions, check-fits, Listed, list_coin, zero_coins, step_of_coin}
use Rattle.stab_commands.proofs.CoinPositionLemmas.{randomness-of-run}
use Rattle.stab_commands.proofs.RowLemmas.{coins-have-rows}
use Rattle.stab_commands.proofs.coin_runs.CoinRuns.of_checked.Goals as goal

pub positions_of-requires-clause-randomness : goal.positions_of-requires-clause-randomness
positions_of-requires-clause-randomness c =
    ap length (c.as_slice.ensures.value ∙ c.in_ok-zero.ensures.free) ∙ randomness-of-run c.args.n (list_coin c.new-coins.result.bits) (circuit_items c.args.circuit.now)

pub returns-clause-runs : goal.returns-clause-runs
returns-clause-runs c =
    let n = c.args.n in
    let items = circuit_items c.args.circuit.now in
    let none = ap (λ (s : Listed). s.bits) c.new-coins.ensures.value in
    let zero : list_coin c.new-coins.result.bits ≡ zero_coins = λ i t. ap (λ bits. get_or bits t false) none i in
    let ran = c.in_ok-zero.ensures in
    let randomness = c.as_slice.ensures.value ∙ ran.free ∙ ap (λ coins. (run_of n coins items).free) zero in
    let found = c.in_ok-numbers.ensures in
    let fits = check-fits n items (unroll items) c.requires.checked refl found.distinct in
    record {
      checked = c.requires.checked;
      fits = fits;
      table = coins-have-rows n items fits;
      zero = record {
        records = ran.records ∙ ap (λ coins. (run_of n coins items).records) zero;
        free = ran.free ∙ ap (λ coins. (run_of n coins items).free) zero;
        detectors = ran.detectors ∙ ap (λ coins. (run_of n coins items).detectors) zero;
        observables = ran.observables ∙ ap (λ coins. (run_of n coins items).observables) zero;
      };
      numbers = found.numbers ∙ ap one_positions randomness;
      steps = found.steps ∙ ap (λ free. map (step_of_coin (unroll items)) (one_positions free)) randomness;
      reference = c.in_ok-reference.ensures.reference;
    }

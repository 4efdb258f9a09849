use Rattle.stab_commands.proofs.Names.{◌≡◌, sym, ◌∙◌, ap, subst, ◌+◌, length, drop, get_or, circuit_items, run_of, AreAscending, unit_coin, coin_flipped, zero_coins, deciding_coins}
use Rattle.stab_frames.specs.Flips.{flipped}
use Rattle.stab_commands.proofs.BitLemmas.{flipped-either}
use Rattle.stab_commands.proofs.CoinPositionLemmas.{ascending, ascending-rest, unit-flipped}
use Rattle.stab_commands.proofs.RowLemmas.{alike-zero}
use Rattle.stab_commands.proofs.coin_runs.CoinRuns.flips.Goals as goal

pub new-coins-requires : goal.new-coins-requires
new-coins-requires g c =
    let n = c.args.n in
    let items = circuit_items c.args.circuit.now in
    let left : c.split_at.result.1.now ≡ drop c.args.first (deciding_coins n items) = c.split_at.ensures.back ∙ ap (drop c.args.first) (c.as_slice.ensures.value ∙ c.requires.runs.numbers) in
    record { ascending = subst AreAscending (sym left) (ascending-rest (deciding_coins n items) c.args.first (ascending (run_of n zero_coins items).free)) }

pub returns-clause-flips : goal.returns-clause-flips
returns-clause-flips g c = λ l lt within.
    let at = g.W.Word.at in
    let n = c.args.n in
    let items = circuit_items c.args.circuit.now in
    let coins = deciding_coins n items in
    let t = get_or coins (c.args.first + l) 0 in
    let left : c.new-coins.result ≡ drop c.args.first coins =
    c.new-coins.ensures.value ∙ c.split_at.ensures.back ∙ ap (drop c.args.first) (c.as_slice.ensures.value ∙ c.requires.runs.numbers) in
    let one : unit_coin c.new-coins.result l ≡ coin_flipped t zero_coins =
    ap (λ numbers. unit_coin numbers l) left ∙ (λ i s. unit-flipped coins c.args.first l s within i) in
    let runs = c.in_ok-run_lanes.ensures.runs l lt in
    let alike = alike-zero n items c.requires.runs.fits (coin_flipped t zero_coins) in
    let zero = c.requires.runs.zero in
    let zero_records = c.as_slice-2.ensures.value ∙ zero.records in
    let zero_detectors = c.as_slice-3.ensures.value ∙ zero.detectors in
    let zero_observables = c.as_slice-4.ensures.value ∙ zero.observables in
    let records = runs.records ∙ ap (λ coins. (run_of n coins items).records) one in
    let detectors = runs.detectors ∙ ap (λ coins. (run_of n coins items).detectors) one in
    let observables = runs.observables ∙ ap (λ coins. (run_of n coins items).observables) one in
    record {
      records =
          c.flip_bits.ensures.value l lt (ap length records ∙ alike.records ∙ sym (ap length zero_records))
          ∙ (λ i. flipped (zero_records i) (records i))
          ∙ flipped-either (run_of n zero_coins items).records (run_of n (coin_flipped t zero_coins) items).records (sym alike.records);
      detectors =
          c.flip_bits-2.ensures.value l lt (ap length detectors ∙ alike.detectors ∙ sym (ap length zero_detectors))
          ∙ (λ i. flipped (zero_detectors i) (detectors i))
          ∙ flipped-either (run_of n zero_coins items).detectors (run_of n (coin_flipped t zero_coins) items).detectors (sym alike.detectors);
      observables =
          c.flip_bits-3.ensures.value l lt (ap length observables ∙ alike.observables ∙ sym (ap length zero_observables))
          ∙ (λ i. flipped (zero_observables i) (observables i))
          ∙ flipped-either (run_of n zero_coins items).observables (run_of n (coin_flipped t zero_coins) items).observables (sym alike.observables);
    }

use Rattle.stab_commands.proofs.Names.{arith, ◌≡◌, ◌∙◌, ◌+◌, ◌++◌, ap, ap₂, sym, subst, length, IsErrAnd, qubits_of, circuit_items, flips_of, zero_coins, LaneHasBits, deciding_coins, lane_bits, coin_at}
use Rattle.stab_commands.proofs.CoinRowLaws.{lanes_joined, within_words}
use Rattle.stab_report.proofs.SendingLaws.{sends_none}
use Rattle.stab_commands.proofs.coins.send_batch.Goals as goal

pub returns-in_err-flips : goal.returns-in_err-flips
returns-in_err-flips g c = record {
  sends = sends_none (g.O.Output.seen c.args.out.now) _ c.from_residual.result (subst (λ f. IsErrAnd c.from_residual.result (λ y. y ≡ f)) c.in_err-flips.ensures.err c.from_residual.ensures.1);
}

pub returns : goal.returns
returns g c =
    let items = circuit_items c.args.circuit.now in
    let found = c.flips.new.lists in
    let n = qubits_of items in
    let enough = ap length c.requires.runs.numbers ∙ ap (λ k. length (deciding_coins k items)) (sym c.qubits.ensures.value) in
    record {
      sends = c.write_parts.ensures.sends
          (λ l less.
          let bits : LaneHasBits g.W.Word.at l (flips_of n items zero_coins (coin_at items (c.args.first + l))) found =
          rw c.qubits.ensures.value at (c.in_ok-flips.ensures.flips l (omega (arith, less, c.requires.few)) (omega (arith, less, c.requires.in_range, enough))) in
          ap (lane_bits g.W.Word.at l) (c.as_slice-words.ensures.value ∙ c.in_ok-extend_from_slice-2.ensures.items ∙ ap₂ (λ a b. a ++ b) (c.in_ok-extend_from_slice.ensures.items ∙ ap (λ more. found.records.items ++ more) c.as_slice.ensures.value) c.as_slice-2.ensures.value)
          ∙ lanes_joined g.W.Word.at l found.records.items found.detectors.items found.observables.items (flips_of n items zero_coins (coin_at items (c.args.first + l))) bits.records bits.detectors bits.observables);
    }

pub write_parts-requires-clause-within : goal.write_parts-requires-clause-within
write_parts-requires-clause-within g c =
    let items = circuit_items c.args.circuit.now in
    let found = c.flips.new.lists in
    let n = qubits_of items in
    let enough = ap length c.requires.runs.numbers ∙ ap (λ k. length (deciding_coins k items)) (sym c.qubits.ensures.value) in
    let t = coin_at items (c.args.first + 0) in
    let bits : LaneHasBits g.W.Word.at 0 (flips_of n items zero_coins t) found =
    rw c.qubits.ensures.value at (c.in_ok-flips.ensures.flips 0 (omega (arith, c.requires.some, c.requires.few)) (omega (arith, c.requires.some, c.requires.in_range, enough))) in
    within_words g.W.Word.at 0 n items t c.as_slice-words.result.now
    (ap (lane_bits g.W.Word.at 0) (c.as_slice-words.ensures.value ∙ c.in_ok-extend_from_slice-2.ensures.items ∙ ap₂ (λ a b. a ++ b) (c.in_ok-extend_from_slice.ensures.items ∙ ap (λ more. found.records.items ++ more) c.as_slice.ensures.value) c.as_slice-2.ensures.value)
    ∙ lanes_joined g.W.Word.at 0 found.records.items found.detectors.items found.observables.items (flips_of n items zero_coins t) bits.records bits.detectors bits.observables)

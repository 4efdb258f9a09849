use Rattle.stab_commands.proofs.Names.{◌≡◌, ◌∙◌, ◌+◌, ◌*◌, ◌<◌, ap, sym, subst, length, replicate, false, arith, length-map, length-replicate, check-whole, IsErrAnd, Took, OutOfMemory, whole, qubits_of, circuit_items, one_positions, lane_bits, coin_entry, texts_from, coin_at, positions_in, text_at}
use Rattle.stab_commands.proofs.PlacedWordLaws.{ones-below}
use Rattle.stab_report.proofs.SendingLaws.{sends_none, sent_shot, shots_break_off, cut_off_as, cut_off_here}
use Rattle.stab_commands.proofs.coin_rows.write_lanes.Goals as goal

pub write_coin-requires : goal.write_coin-requires
write_coin-requires g c =
    let lane = c.loop-lane.lane in
    let less : lane < 64 = omega (arith, c.loop-lane-test.true, c.requires.in_range) in
    let size : length c.loop-lane.bits ≡ length c.args.words.now =
    ap length (c.loop-lane.invariant.same ∙ c.requires.zero) ∙ length-replicate (length c.args.words.now) false in
    record {
      checked = check-whole (qubits_of (circuit_items c.args.circuit.now)) (circuit_items c.args.circuit.now) c.requires.runs.checked;
      runs = c.requires.runs;
      in_range = omega (arith, c.loop-lane-test.true, c.requires.some);
      below =
          ones-below g.W.Word.at (64 * c.args.part + lane) (length c.loop-lane.bits) c.args.words.now c.as_slice-in-loop-lane.result.now size
          (c.as_slice-in-loop-lane.ensures.value ∙ c.in_ok-write_positions.ensures.value ∙ ap (positions_in lane) c.as_slice.ensures.value ∙ c.in_ok-find_words.ensures.ones lane less);
      zero = c.loop-lane.invariant.same ∙ c.requires.zero ∙ ap (λ n. replicate n false) (sym size);
      within = omega (arith, c.requires.within, size);
    }

pub loop-lane-preserved : goal.loop-lane-preserved
loop-lane-preserved g c =
    let items = circuit_items c.args.circuit.now in
    let words = c.args.words.now in
    let lane = c.loop-lane.lane in
    let flips = lane_bits g.W.Word.at (64 * c.args.part + lane) words in
    let less : lane < 64 = omega (arith, c.loop-lane-test.true, c.requires.in_range) in
    let count : length flips ≡ length c.loop-lane.bits = length-map words (λ w. g.W.Word.at w (64 * c.args.part + lane)) ∙ sym (ap length (c.loop-lane.invariant.same ∙ c.requires.zero) ∙ length-replicate (length words) false) in
    let ones : one_positions flips ≡ c.as_slice-in-loop-lane.result.now = sym (c.as_slice-in-loop-lane.ensures.value ∙ c.in_ok-write_positions.ensures.value ∙ ap (positions_in lane) c.as_slice.ensures.value ∙ c.in_ok-find_words.ensures.ones lane less) in
    record {
      same = c.in_ok-write_coin.ensures.same ∙ c.loop-lane.invariant.same;
      took = λ have.
          let same = ap (coin_entry c.args.layout items (coin_at items (c.args.first + lane))) (have lane c.loop-lane-test.true) in
          sent_shot (text_at c.args.layout items) c.args.first lane (c.loop-lane.invariant.took have)
          (subst (λ l. Took (g.O.Output.seen c.loop-lane.out) (g.O.Output.seen c.write_coin.new.out) l) same (c.in_ok-write_coin.ensures.writes flips count ones));
    }

pub returns-in_err-write_coin-clause-sends : goal.returns-in_err-write_coin-clause-sends
returns-in_err-write_coin-clause-sends g c = λ have.
    let items = circuit_items c.args.circuit.now in
    let words = c.args.words.now in
    let lane = c.loop-lane.lane in
    let flips = lane_bits g.W.Word.at (64 * c.args.part + lane) words in
    let less : lane < 64 = omega (arith, c.loop-lane-test.true, c.requires.in_range) in
    let count : length flips ≡ length c.loop-lane.bits = length-map words (λ w. g.W.Word.at w (64 * c.args.part + lane)) ∙ sym (ap length (c.loop-lane.invariant.same ∙ c.requires.zero) ∙ length-replicate (length words) false) in
    let ones : one_positions flips ≡ c.as_slice-in-loop-lane.result.now = sym (c.as_slice-in-loop-lane.ensures.value ∙ c.in_ok-write_positions.ensures.value ∙ ap (positions_in lane) c.as_slice.ensures.value ∙ c.in_ok-find_words.ensures.ones lane less) in
    let same = ap (coin_entry c.args.layout items (coin_at items (c.args.first + lane))) (have lane c.loop-lane-test.true) in
    shots_break_off (text_at c.args.layout items) c.args.first lane c.args.lanes c.in_err-write_coin.field-0.0 c.from_residual-in_err-write_coin.result
    c.loop-lane-test.true (c.loop-lane.invariant.took have) (cut_off_as _ _ c.in_err-write_coin.field-0.0 same (c.in_err-write_coin.ensures.writes flips count ones)) c.from_residual-in_err-write_coin.ensures.1

pub returns-in_err-find_words-clause-sends : goal.returns-in_err-find_words-clause-sends
returns-in_err-find_words-clause-sends g c = λ have. sends_none (g.O.Output.seen c.args.out.now) _ c.from_residual.result (subst (λ f. IsErrAnd c.from_residual.result (λ y. y ≡ f)) c.in_err-find_words.ensures.err c.from_residual.ensures.1)

pub returns-in_err-write_positions-clause-sends : goal.returns-in_err-write_positions-clause-sends
returns-in_err-write_positions-clause-sends g c = λ have.
    shots_break_off (text_at c.args.layout (circuit_items c.args.circuit.now)) c.args.first c.loop-lane.lane c.args.lanes (whole OutOfMemory) c.from_residual-in_err-write_positions.result
    c.loop-lane-test.true (c.loop-lane.invariant.took have) (cut_off_here (g.O.Output.seen c.loop-lane.out) _) c.from_residual-in_err-write_positions.ensures.1

pub returns-clause-sends : goal.returns-clause-sends
returns-clause-sends g c = λ have.
    let end : c.loop-lane.lane ≡ c.args.lanes = omega (arith, c.loop-lane-test.false, c.loop-lane.auto.lane-end) in
    subst (λ n. Took (g.O.Output.seen c.args.out.now) (g.O.Output.seen c.loop-lane.out) (texts_from (text_at c.args.layout (circuit_items c.args.circuit.now)) c.args.first n)) end (c.loop-lane.invariant.took have)

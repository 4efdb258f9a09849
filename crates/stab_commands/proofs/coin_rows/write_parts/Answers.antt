use Rattle.stab_commands.proofs.Names.{◌≡◌, ◌+◌, ◌≤◌, length, ap, sym, ◌∙◌, arith, subst, Took, circuit_items, texts_from, text_at}
use Rattle.stab_commands.proofs.CoinRowLaws.{part_flips}
use Rattle.stab_report.proofs.SendingLaws.{sent_batch, batches_break_off}
use Rattle.stab_report.proofs.WritingLaws.{written}
use Rattle.stab_commands.proofs.coin_rows.write_parts.Goals as goal

pub loop-sent-preserved : goal.loop-sent-preserved
loop-sent-preserved g c =
    let items = circuit_items c.args.circuit.now in
    let old = c.loop-sent.bits.items in
    let lanes = c.write_lanes in
    let preserved = c.in_ok-write_lanes.ensures.same ∙ c.as_mut_slice-zeros.ensures.value in
    let has = written c.loop-sent.bits.len lanes.new.bits _ (c.loop-sent.bits.ok.0 ∙ sym (ap length preserved)) ∙ preserved in
    let at_once = c.loop-sent.invariant.whole c.loop-sent-test.true in
    record {
      within = omega (arith, c.min-some.ensures, c.loop-sent-test.true);
      whole = λ less. omega (arith, c.min-some.ensures, c.loop-sent-test.true, at_once, less);
      zero = has ∙ c.loop-sent.invariant.zero;
      took = λ have.
          sent_batch (text_at c.args.layout items) c.args.first c.loop-sent.sent c.min-some.result (c.loop-sent.invariant.took have)
          (c.in_ok-write_lanes.ensures.sends
          (part_flips g.W.Word.at items c.args.words.now c.args.first c.loop-sent.sent c.min-some.result c.args.lanes at_once
          (omega (arith, c.min-some.ensures, c.loop-sent-test.true)) have));
    }

pub returns-in_err-write_lanes : goal.returns-in_err-write_lanes
returns-in_err-write_lanes g c =
    let items = circuit_items c.args.circuit.now in
    let at_once = c.loop-sent.invariant.whole c.loop-sent-test.true in
    let within : c.loop-sent.sent + c.min-some.result ≤ c.args.lanes = omega (arith, c.min-some.ensures, c.loop-sent-test.true) in
    record {
      sends = λ have.
          batches_break_off (text_at c.args.layout items) c.args.first c.loop-sent.sent c.min-some.result c.args.lanes c.in_err-write_lanes.field-0.0 c.from_residual-in_err-write_lanes.result within
          (c.loop-sent.invariant.took have)
          (c.in_err-write_lanes.ensures.sends
          (part_flips g.W.Word.at items c.args.words.now c.args.first c.loop-sent.sent c.min-some.result c.args.lanes at_once within have))
          c.from_residual-in_err-write_lanes.ensures.1;
    }

pub loop-sent-smaller : goal.loop-sent-smaller
loop-sent-smaller g c = omega (arith, c.min-some.ensures, c.loop-sent-test.true)

pub returns : goal.returns
returns g c = record {
  sends = λ have.
      let end : c.loop-sent.sent ≡ c.args.lanes = omega (arith, c.loop-sent-test.false, c.loop-sent.invariant.within) in
      subst (λ n. Took (g.O.Output.seen c.args.out.now) (g.O.Output.seen c.loop-sent.out) (texts_from (text_at c.args.layout (circuit_items c.args.circuit.now)) c.args.first n)) end (c.loop-sent.invariant.took have);
}

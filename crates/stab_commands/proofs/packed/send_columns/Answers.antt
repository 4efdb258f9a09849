use Rattle.stab_commands.proofs.Names.{◌≡◌, ◌+◌, ◌≤◌, ◌/◌, length, ap, sym, ◌∙◌, arith, subst, Took, of_shots, f01_bytes, length-map, byte_at, sends_none, sent_batch, batches_break_off, written}
use Rattle.stab_commands.proofs.PackingLaws.{packed_of_eight}
use Rattle.stab_commands.proofs.packed.send_columns.Goals as goal

pub loop-sent-preserved : goal.loop-sent-preserved
loop-sent-preserved g c =
    let long : length c.write_bytes.new.bytes ≡ length c.args.words.now = ap length c.write_bytes.ensures.value ∙ length-map c.args.words.now (λ s. byte_at s (c.loop-sent.sent / 8)) in
    let has = written c.loop-sent.column.len c.write_bytes.new.bytes _ (c.loop-sent.column.ok.0 ∙ c.loop-sent.invariant.size ∙ sym long) in
    let at_once = c.loop-sent.invariant.whole c.loop-sent-test.true in record {
      within = omega (arith, c.min-some.ensures, c.loop-sent-test.true);
      whole = λ less. omega (arith, c.min-some.ensures, c.loop-sent-test.true, at_once, less);
      size = ap length has ∙ long;
      took = λ first bytes_of are.
          sent_batch bytes_of first c.loop-sent.sent c.min-some.result (c.loop-sent.invariant.took first bytes_of are)
          (c.in_ok-send_lines.ensures.sends (first + c.loop-sent.sent) bytes_of
          (λ k less.
          packed_of_eight f01_bytes c.loop-sent.sent c.args.lanes first k bytes_of (omega (arith, less, c.min-some.ensures, c.loop-sent-test.true)) c.args.words.now c.as_slice.result.now
          at_once (omega (arith, less, c.min-some.ensures)) are (c.as_slice.ensures.value ∙ has ∙ c.write_bytes.ensures.value)));
    }

pub returns-in_err-send_lines : goal.returns-in_err-send_lines
returns-in_err-send_lines g c =
    let long : length c.write_bytes.new.bytes ≡ length c.args.words.now = ap length c.write_bytes.ensures.value ∙ length-map c.args.words.now (λ s. byte_at s (c.loop-sent.sent / 8)) in
    let has = written c.loop-sent.column.len c.write_bytes.new.bytes _ (c.loop-sent.column.ok.0 ∙ c.loop-sent.invariant.size ∙ sym long) in
    let at_once = c.loop-sent.invariant.whole c.loop-sent-test.true in
    let within : c.loop-sent.sent + c.min-some.result ≤ c.args.lanes = omega (arith, c.min-some.ensures, c.loop-sent-test.true) in record {
      sends = λ first bytes_of are.
          batches_break_off bytes_of first c.loop-sent.sent c.min-some.result c.args.lanes c.in_err-send_lines.field-0.0 c.from_residual-in_err-send_lines.result within
          (c.loop-sent.invariant.took first bytes_of are)
          (c.in_err-send_lines.ensures.sends (first + c.loop-sent.sent) bytes_of
          (λ k less.
          packed_of_eight f01_bytes c.loop-sent.sent c.args.lanes first k bytes_of (omega (arith, less, c.min-some.ensures, c.loop-sent-test.true)) c.args.words.now c.as_slice.result.now
          at_once (omega (arith, less, c.min-some.ensures)) are (c.as_slice.ensures.value ∙ has ∙ c.write_bytes.ensures.value)))
          c.from_residual-in_err-send_lines.ensures.1;
    }

pub loop-sent-smaller : goal.loop-sent-smaller
loop-sent-smaller g c = omega (arith, c.min-some.ensures, c.loop-sent-test.true)

pub returns-in_err-column : goal.returns-in_err-column
returns-in_err-column g c = record { sends = λ first bytes_of are. sends_none (g.O.Output.seen c.args.out.now) _ c.from_residual.result c.from_residual.ensures.1 }

pub returns : goal.returns
returns g c = record {
  sends = λ first bytes_of are.
      let end : c.loop-sent.sent ≡ c.args.lanes = omega (arith, c.loop-sent-test.false, c.loop-sent.invariant.within) in
      subst (λ n. Took (g.O.Output.seen c.args.out.now) (g.O.Output.seen c.loop-sent.out) (of_shots bytes_of first n)) end (c.loop-sent.invariant.took first bytes_of are);
}

use Rattle.stab_commands.proofs.Names.{◌≡◌, ◌+◌, ◌/◌, ◌<◌, ◌≤◌, length, ap, sym, ◌∙◌, arith, subst, Took, of_shots, packed_bytes, word_bit, lane_bits, sent_batch, batches_break_off, written}
use Rattle.stab_commands.proofs.PackingLaws.{packed_of_part, packed_of_next}
use Rattle.stab_commands.proofs.packed.send_all_parts.Goals as goal
use Rattle.stab_commands.proofs.packed.send_all_parts.Goals.{then-some-gt64, else-some-gt64}

pub loop-sent-preserved : goal.loop-sent-preserved
loop-sent-preserved g c =
    let one = c.loop-sent.one in
    let two = c.loop-sent.two in
    let parts = c.write_two_parts in
    let has_one = written one.len parts.new.first _ (one.ok.0 ∙ sym (parts.ensures.size ∙ ap length c.as_mut_slice.ensures.value)) in
    let has_two = written two.len parts.new.second _ (two.ok.0 ∙ sym (parts.ensures.second_size ∙ ap length c.as_mut_slice-in-loop-sent.ensures.value)) in
    let at_once = c.loop-sent.invariant.whole c.loop-sent-test.true in
    let next_is : 64 < c.min-some.result → c.if-some-gt64.next ≡ c.loop-sent.sent / 64 + 1 = elim c.if-some-gt64.branch [
      | then-some-gt64 w ↦ λ more. w.next-is
      | else-some-gt64 w ↦ λ more. absurd (omega (arith, w.if-some-gt64.false, more))
    ] in
    record {
      within = omega (arith, c.min-some.ensures, c.loop-sent-test.true);
      whole = λ less. omega (arith, c.min-some.ensures, c.loop-sent-test.true, at_once, less);
      size = ap length has_one ∙ parts.ensures.size ∙ ap length c.as_mut_slice.ensures.value ∙ c.loop-sent.invariant.size;
      second_size = ap length has_two ∙ parts.ensures.second_size ∙ ap length c.as_mut_slice-in-loop-sent.ensures.value ∙ c.loop-sent.invariant.second_size;
      took = λ first bytes_of are.
          sent_batch bytes_of first c.loop-sent.sent c.min-some.result (c.loop-sent.invariant.took first bytes_of are)
          (c.in_ok-send_two_parts.ensures.sends (first + c.loop-sent.sent) bytes_of
          (λ l small less.
          packed_of_part (packed_bytes c.args.packing) c.loop-sent.sent c.args.lanes first l bytes_of (omega (arith, less, c.min-some.ensures, c.loop-sent-test.true)) g.W.Word.at c.args.words.now c.as_slice.result.now
          (omega (arith, at_once)) are (ap (lane_bits word_bit l) (c.as_slice.ensures.value ∙ has_one) ∙ parts.ensures.value l small))
          (λ l less.
          packed_of_next (packed_bytes c.args.packing) c.loop-sent.sent c.args.lanes first l bytes_of (omega (arith, less, c.min-some.ensures, c.loop-sent-test.true)) g.W.Word.at c.args.words.now c.as_slice-in-loop-sent.result.now
          c.if-some-gt64.next at_once (next_is (omega (arith, less))) (omega (arith, less, c.min-some.ensures, c.loop-sent-test.true)) are
          (ap (lane_bits word_bit l) (c.as_slice-in-loop-sent.ensures.value ∙ has_two) ∙ parts.ensures.second l (omega (arith, less, c.min-some.ensures)))));
    }

pub returns-in_err-send_two_parts : goal.returns-in_err-send_two_parts
returns-in_err-send_two_parts g c =
    let one = c.loop-sent.one in
    let two = c.loop-sent.two in
    let parts = c.write_two_parts in
    let has_one = written one.len parts.new.first _ (one.ok.0 ∙ sym (parts.ensures.size ∙ ap length c.as_mut_slice.ensures.value)) in
    let has_two = written two.len parts.new.second _ (two.ok.0 ∙ sym (parts.ensures.second_size ∙ ap length c.as_mut_slice-in-loop-sent.ensures.value)) in
    let at_once = c.loop-sent.invariant.whole c.loop-sent-test.true in
    let next_is : 64 < c.min-some.result → c.if-some-gt64.next ≡ c.loop-sent.sent / 64 + 1 = elim c.if-some-gt64.branch [
      | then-some-gt64 w ↦ λ more. w.next-is
      | else-some-gt64 w ↦ λ more. absurd (omega (arith, w.if-some-gt64.false, more))
    ] in
    let within : c.loop-sent.sent + c.min-some.result ≤ c.args.lanes = omega (arith, c.min-some.ensures, c.loop-sent-test.true) in
    record {
      sends = λ first bytes_of are.
          batches_break_off bytes_of first c.loop-sent.sent c.min-some.result c.args.lanes c.in_err-send_two_parts.field-0.0 c.from_residual-in_err-send_two_parts.result within
          (c.loop-sent.invariant.took first bytes_of are)
          (c.in_err-send_two_parts.ensures.sends (first + c.loop-sent.sent) bytes_of
          (λ l small less.
          packed_of_part (packed_bytes c.args.packing) c.loop-sent.sent c.args.lanes first l bytes_of (omega (arith, less, c.min-some.ensures, c.loop-sent-test.true)) g.W.Word.at c.args.words.now c.as_slice.result.now
          (omega (arith, at_once)) are (ap (lane_bits word_bit l) (c.as_slice.ensures.value ∙ has_one) ∙ parts.ensures.value l small))
          (λ l less.
          packed_of_next (packed_bytes c.args.packing) c.loop-sent.sent c.args.lanes first l bytes_of (omega (arith, less, c.min-some.ensures, c.loop-sent-test.true)) g.W.Word.at c.args.words.now c.as_slice-in-loop-sent.result.now
          c.if-some-gt64.next at_once (next_is (omega (arith, less))) (omega (arith, less, c.min-some.ensures, c.loop-sent-test.true)) are
          (ap (lane_bits word_bit l) (c.as_slice-in-loop-sent.ensures.value ∙ has_two) ∙ parts.ensures.second l (omega (arith, less, c.min-some.ensures)))))
          c.from_residual-in_err-send_two_parts.ensures.1;
    }

pub loop-sent-smaller : goal.loop-sent-smaller
loop-sent-smaller g c = omega (arith, c.min-some.ensures, c.loop-sent-test.true)

pub returns : goal.returns
returns g c = record {
  sends = λ first bytes_of are.
      let end : c.loop-sent.sent ≡ c.args.lanes = omega (arith, c.loop-sent-test.false, c.loop-sent.invariant.within) in
      subst (λ n. Took (g.O.Output.seen c.args.out.now) (g.O.Output.seen c.loop-sent.out) (of_shots bytes_of first n)) end (c.loop-sent.invariant.took first bytes_of are);
}

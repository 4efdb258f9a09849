use Rattle.stab_commands.proofs.Names.{◌≡◌, ◌+◌, ◌≤◌, length, ap, sym, ◌∙◌, arith, subst, Took, word_bit, lane_bits, of_shots, shown_bytes, sent_batch, batches_break_off, written}
use Rattle.stab_commands.proofs.ShotLaws.{shown_of_part}
use Rattle.stab_commands.proofs.lanes.write_parts.Goals as goal

pub loop-sent-preserved : goal.loop-sent-preserved
loop-sent-preserved g c =
    let part = c.write_part in
    let has = written c.loop-sent.part.len part.new.part _ (c.loop-sent.part.ok.0 ∙ sym (part.ensures.size ∙ ap length c.as_mut_slice.ensures.value)) in
    let at_once = c.loop-sent.invariant.whole c.loop-sent-test.true in
    record {
      within = omega (arith, c.min-some.ensures, c.loop-sent-test.true);
      whole = λ less. omega (arith, c.min-some.ensures, c.loop-sent-test.true, at_once, less);
      size = ap length has ∙ part.ensures.size ∙ ap length c.as_mut_slice.ensures.value ∙ c.loop-sent.invariant.size;
      took = λ first shown run are.
          sent_batch (λ shot. shown_bytes c.args.format shown (run shot)) first c.loop-sent.sent c.min-some.result (c.loop-sent.invariant.took first shown run are)
          (c.in_ok-write_lanes.ensures.sends (first + c.loop-sent.sent) shown run
          (λ k less.
          shown_of_part g.W.Word.at c.args.words.now c.as_slice.result.now c.loop-sent.sent c.args.lanes first k shown run c.args.kinds at_once
          (omega (arith, less, c.min-some.ensures, c.loop-sent-test.true)) are
          (ap (lane_bits word_bit k) (c.as_slice.ensures.value ∙ has) ∙ part.ensures.value k (omega (arith, less, c.min-some.ensures)))));
    }

pub returns-in_err-write_lanes : goal.returns-in_err-write_lanes
returns-in_err-write_lanes g c =
    let part = c.write_part in
    let has = written c.loop-sent.part.len part.new.part _ (c.loop-sent.part.ok.0 ∙ sym (part.ensures.size ∙ ap length c.as_mut_slice.ensures.value)) in
    let at_once = c.loop-sent.invariant.whole c.loop-sent-test.true in
    let within : c.loop-sent.sent + c.min-some.result ≤ c.args.lanes = omega (arith, c.min-some.ensures, c.loop-sent-test.true) in
    record {
      sends = λ first shown run are.
          batches_break_off (λ shot. shown_bytes c.args.format shown (run shot)) first c.loop-sent.sent c.min-some.result c.args.lanes c.in_err-write_lanes.field-0.0 c.from_residual-in_err-write_lanes.result within
          (c.loop-sent.invariant.took first shown run are)
          (c.in_err-write_lanes.ensures.sends (first + c.loop-sent.sent) shown run
          (λ k less.
          shown_of_part g.W.Word.at c.args.words.now c.as_slice.result.now c.loop-sent.sent c.args.lanes first k shown run c.args.kinds at_once
          (omega (arith, less, c.min-some.ensures, c.loop-sent-test.true)) are
          (ap (lane_bits word_bit k) (c.as_slice.ensures.value ∙ has) ∙ part.ensures.value k (omega (arith, less, c.min-some.ensures)))))
          c.from_residual-in_err-write_lanes.ensures.1;
    }

pub loop-sent-smaller : goal.loop-sent-smaller
loop-sent-smaller g c = omega (arith, c.min-some.ensures, c.loop-sent-test.true)

pub returns : goal.returns
returns g c = record {
  sends = λ first shown run are.
      let end : c.loop-sent.sent ≡ c.args.lanes = omega (arith, c.loop-sent-test.false, c.loop-sent.invariant.within) in
      subst (λ n. Took (g.O.Output.seen c.args.out.now) (g.O.Output.seen c.loop-sent.out) (of_shots (λ shot. shown_bytes c.args.format shown (run shot)) first n)) end (c.loop-sent.invariant.took first shown run are);
}

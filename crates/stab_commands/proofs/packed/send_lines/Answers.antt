use Rattle.stab_commands.proofs.Names.{◌≡◌, ◌∙◌, ◌+◌, ap, sym, length, arith, subst, Took, of_shots, sends_none, sent_shot, shots_break_off, cut_off_as, written}
use Rattle.stab_commands.proofs.LaneLineLaws.{length-line}
use Rattle.stab_commands.proofs.packed.send_lines.Goals as goal

pub loop-lane-preserved : goal.loop-lane-preserved
loop-lane-preserved g c =
    let long : length c.write_line.new.text ≡ length c.args.column.now + 1 = ap length c.write_line.ensures.value ∙ length-line c.loop-lane.lane c.args.column.now in
    let has = written c.loop-lane.text.len c.write_line.new.text _ (c.loop-lane.text.ok.0 ∙ c.loop-lane.invariant.0 ∙ sym long) in (
      ap length has ∙ long,
      λ first bytes_of are.
          let same = c.as_slice.ensures.value ∙ has ∙ c.write_line.ensures.value ∙ are c.loop-lane.lane c.loop-lane-test.true in
          sent_shot bytes_of first c.loop-lane.lane (c.loop-lane.invariant.1 first bytes_of are)
          (subst (λ l. Took (g.O.Output.seen c.loop-lane.out) (g.O.Output.seen c.send_bytes.new.out) l) same c.in_ok-send_bytes.ensures.writes),
    )

pub returns-in_err-send_bytes : goal.returns-in_err-send_bytes
returns-in_err-send_bytes g c =
    let long : length c.write_line.new.text ≡ length c.args.column.now + 1 = ap length c.write_line.ensures.value ∙ length-line c.loop-lane.lane c.args.column.now in
    let has = written c.loop-lane.text.len c.write_line.new.text _ (c.loop-lane.text.ok.0 ∙ c.loop-lane.invariant.0 ∙ sym long) in record {
      sends = λ first bytes_of are.
          let same = c.as_slice.ensures.value ∙ has ∙ c.write_line.ensures.value ∙ are c.loop-lane.lane c.loop-lane-test.true in
          shots_break_off bytes_of first c.loop-lane.lane c.args.lanes c.in_err-send_bytes.field-0.0 c.from_residual-in_err-send_bytes.result
          c.loop-lane-test.true (c.loop-lane.invariant.1 first bytes_of are) (cut_off_as _ _ c.in_err-send_bytes.field-0.0 same c.in_err-send_bytes.ensures.writes) c.from_residual-in_err-send_bytes.ensures.1;
    }

pub returns-in_err-text : goal.returns-in_err-text
returns-in_err-text g c = record { sends = λ first bytes_of are. sends_none (g.O.Output.seen c.args.out.now) _ c.from_residual.result c.from_residual.ensures.1 }

pub returns : goal.returns
returns g c = record {
  sends = λ first bytes_of are.
      let end : c.loop-lane.lane ≡ c.args.lanes = omega (arith, c.loop-lane-test.false, c.loop-lane.auto.lane-end) in
      subst (λ n. Took (g.O.Output.seen c.args.out.now) (g.O.Output.seen c.loop-lane.out) (of_shots bytes_of first n)) end (c.loop-lane.invariant.1 first bytes_of are);
}

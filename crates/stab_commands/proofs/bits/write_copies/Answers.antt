use Rattle.stab_commands.proofs.Names.{arith, ◌≡◌, ◌∙◌, ap, subst, Took, shot_bytes, of_shots, shown_bytes, sent_shot, shots_break_off, cut_off_as}
use Rattle.stab_commands.proofs.ShotLaws.{bytes_shown}
use Rattle.stab_commands.proofs.bits.write_copies.Goals as goal

pub loop-written-preserved : goal.loop-written-preserved
loop-written-preserved g c = λ first shown run is.
    let same = ap (shot_bytes c.args.format c.args.bits.now.kinds) c.as_slice.ensures.value ∙ bytes_shown c.args.format shown run c.args.bits.now.kinds c.args.bits.now.items.items is in
    sent_shot (λ shot. shown_bytes c.args.format shown run) first c.loop-written.written (c.loop-written.invariant first shown run is)
    (subst (λ l. Took (g.O.Output.seen c.loop-written.out) (g.O.Output.seen c.write_shot.new.out) l) same c.in_ok-write_shot.ensures.writes)

pub returns-in_err-write_shot : goal.returns-in_err-write_shot
returns-in_err-write_shot g c = record {
  sends = λ first shown run is.
      let same = ap (shot_bytes c.args.format c.args.bits.now.kinds) c.as_slice.ensures.value ∙ bytes_shown c.args.format shown run c.args.bits.now.kinds c.args.bits.now.items.items is in
      shots_break_off (λ shot. shown_bytes c.args.format shown run) first c.loop-written.written c.args.copies c.in_err-write_shot.field-0.0 c.from_residual.result
      c.loop-written-test.true (c.loop-written.invariant first shown run is) (cut_off_as _ _ c.in_err-write_shot.field-0.0 same c.in_err-write_shot.ensures.writes) c.from_residual.ensures.1;
}

pub returns : goal.returns
returns g c = record {
  sends = λ first shown run is.
      let end : c.loop-written.written ≡ c.args.copies = omega (arith, c.loop-written-test.false, c.loop-written.auto.written-end) in
      subst (λ n. Took (g.O.Output.seen c.args.out.now) (g.O.Output.seen c.loop-written.out) (of_shots (λ shot. shown_bytes c.args.format shown run) first n)) end (c.loop-written.invariant first shown run is);
}

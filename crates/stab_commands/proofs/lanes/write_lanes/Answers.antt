use Rattle.stab_commands.proofs.Names.{arith, ◌≡◌, ◌∙◌, ◌+◌, ap, subst, Took, shot_bytes, OutOfMemory, whole, of_shots, shown_bytes, sends_none, sent_shot, shots_break_off, cut_off_as, cut_off_here}
use Rattle.stab_commands.proofs.ShotLaws.{bytes_shown}
use Rattle.stab_commands.proofs.lanes.write_lanes.Goals as goal

pub loop-lane-preserved : goal.loop-lane-preserved
loop-lane-preserved g c = λ first shown run are.
    let same = ap (shot_bytes c.args.format c.args.kinds) (c.as_slice.ensures.value ∙ c.in_ok-write_lane.ensures.value) ∙ bytes_shown c.args.format shown (run (first + c.loop-lane.lane)) c.args.kinds _ (are c.loop-lane.lane c.loop-lane-test.true) in
    sent_shot (λ shot. shown_bytes c.args.format shown (run shot)) first c.loop-lane.lane (c.loop-lane.invariant first shown run are)
    (subst (λ l. Took (g.O.Output.seen c.loop-lane.out) (g.O.Output.seen c.write_shot.new.out) l) same c.in_ok-write_shot.ensures.writes)

pub returns-in_err-write_shot : goal.returns-in_err-write_shot
returns-in_err-write_shot g c = record {
  sends = λ first shown run are.
      let same = ap (shot_bytes c.args.format c.args.kinds) (c.as_slice.ensures.value ∙ c.in_ok-write_lane.ensures.value) ∙ bytes_shown c.args.format shown (run (first + c.loop-lane.lane)) c.args.kinds _ (are c.loop-lane.lane c.loop-lane-test.true) in
      shots_break_off (λ shot. shown_bytes c.args.format shown (run shot)) first c.loop-lane.lane c.args.lanes c.in_err-write_shot.field-0.0 c.from_residual-in_err-write_shot.result
      c.loop-lane-test.true (c.loop-lane.invariant first shown run are) (cut_off_as _ _ c.in_err-write_shot.field-0.0 same c.in_err-write_shot.ensures.writes) c.from_residual-in_err-write_shot.ensures.1;
}

pub returns-in_err-bits : goal.returns-in_err-bits
returns-in_err-bits g c = record { sends = λ first shown run are. sends_none (g.O.Output.seen c.args.out.now) _ c.from_residual.result c.from_residual.ensures.1 }

pub returns-in_err-write_lane : goal.returns-in_err-write_lane
returns-in_err-write_lane g c = record {
  sends = λ first shown run are.
      shots_break_off (λ shot. shown_bytes c.args.format shown (run shot)) first c.loop-lane.lane c.args.lanes (whole OutOfMemory) c.from_residual-in_err-write_lane.result
      c.loop-lane-test.true (c.loop-lane.invariant first shown run are) (cut_off_here (g.O.Output.seen c.loop-lane.out) _) c.from_residual-in_err-write_lane.ensures.1;
}

pub returns : goal.returns
returns g c = record {
  sends = λ first shown run are.
      let end : c.loop-lane.lane ≡ c.args.lanes = omega (arith, c.loop-lane-test.false, c.loop-lane.auto.lane-end) in
      subst (λ n. Took (g.O.Output.seen c.args.out.now) (g.O.Output.seen c.loop-lane.out) (of_shots (λ shot. shown_bytes c.args.format shown (run shot)) first n)) end (c.loop-lane.invariant first shown run are);
}

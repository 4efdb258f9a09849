use Rattle.stab_commands.proofs.Names.{◌+◌, sym, subst, F01, B8, of_shots, SendsUnflushed, shown_bytes}
use Rattle.stab_commands.proofs.ShotLaws.{bytes_shown}
use Rattle.stab_commands.proofs.lanes.send_lanes.Goals as goal

pub returns-in-F01 : goal.returns-in-F01
returns-in-F01 g c = record {
  sends = λ first shown run are.
      subst (λ f. SendsUnflushed (of_shots (λ shot. shown_bytes f shown (run shot)) first c.args.lanes) (g.O.Output.seen c.args.out.now) (g.O.Output.seen c.send_packed.new.out) c.send_packed.result) (sym c.in-F01.is)
      (c.send_packed.ensures.sends first (λ shot. shown_bytes F01 shown (run shot))
      (λ l less. bytes_shown F01 shown (run (first + l)) c.args.kinds _ (are l less)));
}

pub returns-in-B8 : goal.returns-in-B8
returns-in-B8 g c = record {
  sends = λ first shown run are.
      subst (λ f. SendsUnflushed (of_shots (λ shot. shown_bytes f shown (run shot)) first c.args.lanes) (g.O.Output.seen c.args.out.now) (g.O.Output.seen c.send_packed-in-B8.new.out) c.send_packed-in-B8.result) (sym c.in-B8.is)
      (c.send_packed-in-B8.ensures.sends first (λ shot. shown_bytes B8 shown (run shot))
      (λ l less. bytes_shown B8 shown (run (first + l)) c.args.kinds _ (are l less)));
}

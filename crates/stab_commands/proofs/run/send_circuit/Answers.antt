use Rattle.stab_commands.proofs.Names.{sends_cut_off, sends_finished}
use Rattle.stab_commands.proofs.run.send_circuit.Goals as goal

pub returns-in_err-send_shots : goal.returns-in_err-send_shots
returns-in_err-send_shots g c = record {
  sends = sends_cut_off _ (g.O.Output.seen c.args.out.now) (g.O.Output.seen c.send_shots.new.out) c.in_err-send_shots.field-0.0 c.from_residual.result c.in_err-send_shots.ensures.sends c.from_residual.ensures.1;
}

pub returns : goal.returns
returns g c = record {
  sends = sends_finished _ (g.O.Output.seen c.args.out.now) (g.O.Output.seen c.send_shots.new.out) (g.O.Output.seen c.finish.new.out) c.finish.result c.in_ok-send_shots.ensures.sends c.finish.ensures.flushes;
}

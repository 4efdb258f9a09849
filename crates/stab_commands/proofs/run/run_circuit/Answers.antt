use Rattle.stab_commands.proofs.Names.{circuit_items, shots_of}
use Rattle.stab_commands.proofs.RunLaws.{ends_refused, ends_sent}
use Rattle.stab_commands.proofs.run.run_circuit.Goals as goal

pub returns-in_err-circuit : goal.returns-in_err-circuit
returns-in_err-circuit g c = record {
  ends = ends_refused (shots_of c.args.format c.args.shown c.args.shots c.args.source.now) (g.I.Input.seen c.args.input.now) (g.I.Input.seen c.read_circuit.new.input) (g.O.Output.seen c.args.out.now)
      c.in_err-circuit.field-0.0 c.from_residual.result c.in_err-circuit.ensures.reads c.from_residual.ensures.1;
}

pub returns : goal.returns
returns g c = record {
  ends = ends_sent (shots_of c.args.format c.args.shown c.args.shots c.args.source.now) (g.I.Input.seen c.args.input.now) (g.I.Input.seen c.read_circuit.new.input) (g.O.Output.seen c.args.out.now) (g.O.Output.seen c.send_circuit.new.out)
      c.in_ok-circuit.ensures.reads.0 (circuit_items c.in_ok-circuit.circuit) c.send_circuit.result c.in_ok-circuit.ensures.reads.1 c.in_ok-circuit.ensures.reads.2 c.send_circuit.ensures.sends;
}

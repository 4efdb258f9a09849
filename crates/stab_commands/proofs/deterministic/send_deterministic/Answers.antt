use Rattle.stab_commands.proofs.Names.{ap₂, circuit_items, shot_bytes, IsDeterministicText}
use Rattle.stab_commands.proofs.FoundLaws.{at_once_failed, at_once_finished, found_at_once}
use Rattle.stab_commands.proofs.deterministic.send_deterministic.Goals as goal

pub returns-in_err-write_shot : goal.returns-in_err-write_shot
returns-in_err-write_shot g c =
    let items = circuit_items c.args.circuit.now in
    let bytes = shot_bytes c.args.format c.kinds_of-kinds.result c.as_slice.result.now in
    let is = ap₂ (λ kinds bits. shot_bytes c.args.format kinds bits) c.kinds_of-kinds.ensures.value c.as_slice.ensures.value in record {
      sends = found_at_once (IsDeterministicText c.args.format items) (g.O.Output.seen c.args.out.now) (g.O.Output.seen c.write_shot.new.out) bytes c.from_residual-in_err-write_shot.result
          (c.in_ok-deterministic.deterministic.items, (rw c.qubits.ensures.value at c.in_ok-deterministic.ensures.deterministic), is)
          (at_once_failed (g.O.Output.seen c.args.out.now) (g.O.Output.seen c.write_shot.new.out) bytes c.in_err-write_shot.field-0.0 c.from_residual-in_err-write_shot.result c.from_residual-in_err-write_shot.ensures.1
          c.in_err-write_shot.ensures.writes.0 c.in_err-write_shot.ensures.writes.1);
    }

pub returns : goal.returns
returns g c =
    let items = circuit_items c.args.circuit.now in
    let bytes = shot_bytes c.args.format c.kinds_of-kinds.result c.as_slice.result.now in
    let is = ap₂ (λ kinds bits. shot_bytes c.args.format kinds bits) c.kinds_of-kinds.ensures.value c.as_slice.ensures.value in record {
      sends = found_at_once (IsDeterministicText c.args.format items) (g.O.Output.seen c.args.out.now) (g.O.Output.seen c.finish.new.out) bytes c.finish.result
          (c.in_ok-deterministic.deterministic.items, (rw c.qubits.ensures.value at c.in_ok-deterministic.ensures.deterministic), is)
          (at_once_finished (g.O.Output.seen c.args.out.now) (g.O.Output.seen c.write_shot.new.out) (g.O.Output.seen c.finish.new.out) bytes c.finish.result c.in_ok-write_shot.ensures.writes c.finish.ensures.flushes);
    }

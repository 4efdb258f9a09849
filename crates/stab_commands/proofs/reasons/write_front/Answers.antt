use Rattle.stab_commands.proofs.Names.{err_from_is_err_and, circuit_items, writes_failed, writes_then, coordinates_at}
use Rattle.stab_commands.proofs.reasons.write_front.Goals as goal

pub returns-in_err-write_bit : goal.returns-in_err-write_bit
returns-in_err-write_bit g c =
    let p = err_from_is_err_and c.from_residual.result c.from_residual.ensures.1 in
    record { writes = writes_failed (coordinates_at (circuit_items c.args.circuit.now) c.args.path.now) p.1 p.2 c.in_err-write_bit.ensures.writes }

pub returns : goal.returns
returns g c = record { writes = writes_then _ _ _ c.in_ok-write_bit.ensures.writes c.write_coordinates.ensures.writes }

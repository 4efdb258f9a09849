use Rattle.stab_script.proofs.Names.{◌++◌, flat_map, map, err_from_is_err_and, subst, writes_failed, writes_then, turn_shown, turn_line, circuit_items}
use Rattle.stab_io.specs.Devices.{WritesAll}
use Rattle.stab_report.specs.CoinTables.{whole_kinds}
use Rattle.stab_script.specs.WayTexts.{flips_line, left_line}
use Rattle.stab_script.proofs.lines.write_way.Goals as goal

pub returns-in_err-write_turns : goal.returns-in_err-write_turns
returns-in_err-write_turns g c =
    let p = err_from_is_err_and c.from_residual.result c.from_residual.ensures.1 in
    let items = circuit_items c.args.circuit.now in
    record { writes = writes_failed (flips_line (whole_kinds items) c.args.bits.now ++ left_line c.args.left.now) p.1 p.2 c.in_err-write_turns.ensures.writes }

pub returns-in_err-write_flips : goal.returns-in_err-write_flips
returns-in_err-write_flips g c =
    let p = err_from_is_err_and c.from_residual-in_err-write_flips.result c.from_residual-in_err-write_flips.ensures.1 in
    let failed = writes_failed (left_line c.args.left.now) p.1 p.2 c.in_err-write_flips.ensures.writes in record {
      writes = writes_then _ _ _ c.in_ok-write_turns.ensures.writes
          (subst (λ k. WritesAll (g.O.Output.seen c.write_turns.new.out) (g.O.Output.seen c.write_flips.new.out) (flips_line k c.args.bits.now ++ left_line c.args.left.now) c.from_residual-in_err-write_flips.result)
          c.kinds_of_all.ensures.value failed);
    }

pub returns : goal.returns
returns g c =
    let items = circuit_items c.args.circuit.now in
    let flips = writes_then {front = flips_line c.kinds_of_all.result c.args.bits.now} _ _ _ c.in_ok-write_flips.ensures.writes c.write_left.ensures.writes in
    record {
      writes = writes_then {front = flat_map (turn_line items) (map turn_shown c.args.turns.now)} _ _ _ c.in_ok-write_turns.ensures.writes
          (subst (λ k. WritesAll (g.O.Output.seen c.write_turns.new.out) (g.O.Output.seen c.write_left.new.out) (flips_line k c.args.bits.now ++ left_line c.args.left.now) c.write_left.result) c.kinds_of_all.ensures.value flips);
    }

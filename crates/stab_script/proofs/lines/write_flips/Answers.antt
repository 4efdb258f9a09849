use Rattle.stab_script.proofs.Names.{◌++◌, codes, flat_map, err_from_is_err_and, writes_failed, writes_then, entry, one_positions}
use Rattle.stab_script.proofs.lines.write_flips.Goals as goal

pub returns-in_err-write_all : goal.returns-in_err-write_all
returns-in_err-write_all g c =
    let p = err_from_is_err_and c.from_residual.result c.from_residual.ensures.1 in
    record { writes = writes_failed (flat_map (entry c.args.kinds) (one_positions c.args.bits.now) ++ codes "\n") p.1 p.2 c.in_err-write_all.ensures.writes }

pub returns-in_err-write_ones : goal.returns-in_err-write_ones
returns-in_err-write_ones g c =
    let p = err_from_is_err_and c.from_residual-in_err-write_ones.result c.from_residual-in_err-write_ones.ensures.1 in
    record { writes = writes_then _ _ _ c.in_ok-write_all.ensures.writes (writes_failed (codes "\n") p.1 p.2 c.in_err-write_ones.ensures.writes) }

pub returns : goal.returns
returns g c = record {
  writes = writes_then {front = codes "flips"} _ _ _ c.in_ok-write_all.ensures.writes
      (writes_then {front = flat_map (entry c.args.kinds) (one_positions c.args.bits.now)} _ _ _ c.in_ok-write_ones.ensures.writes c.write_all-2.ensures.writes);
}

use Rattle.stab_script.proofs.Names.{◌++◌, codes, refl, flat_map, entry, err_from_is_err_and, writes_as, writes_failed, writes_then, circuit_items}
use Rattle.stab_report.specs.PlacedSingleErrors.{single_error_placed}
use Rattle.stab_report.specs.CoinTables.{whole_kinds}
use Rattle.stab_script.specs.WayTexts.{left_line}
use Rattle.stab_script.proofs.EachLemmas.{line_parts}
use Rattle.stab_script.proofs.each.write_error.Goals as goal

pub returns-in_err-write_single_error : goal.returns-in_err-write_single_error
returns-in_err-write_single_error g c =
    let items = circuit_items c.args.circuit.now in
    let text = line_parts items (single_error_placed c.args.single_error) c.path_of-path.result (whole_kinds items) c.args.flipped.now c.args.left.now c.path_of-path.ensures.value refl in
    let p = err_from_is_err_and c.from_residual.result c.from_residual.ensures.1 in record {
      writes = writes_as (g.O.Output.seen c.args.out.now) (g.O.Output.seen c.write_single_error.new.out) c.from_residual.result text
          (writes_failed (flat_map (entry (whole_kinds items)) c.args.flipped.now ++ (codes " " ++ left_line c.args.left.now)) p.1 p.2 c.in_err-write_single_error.ensures.writes);
    }

pub returns-in_err-write_entries : goal.returns-in_err-write_entries
returns-in_err-write_entries g c =
    let items = circuit_items c.args.circuit.now in
    let text = line_parts items (single_error_placed c.args.single_error) c.path_of-path.result c.kinds_of_all.result c.args.flipped.now c.args.left.now c.path_of-path.ensures.value c.kinds_of_all.ensures.value in
    let p = err_from_is_err_and c.from_residual-in_err-write_entries.result c.from_residual-in_err-write_entries.ensures.1 in record {
      writes = writes_as (g.O.Output.seen c.args.out.now) (g.O.Output.seen c.write_entries.new.out) c.from_residual-in_err-write_entries.result text
          (writes_then _ _ _ c.in_ok-write_single_error.ensures.writes (writes_failed (codes " " ++ left_line c.args.left.now) p.1 p.2 c.in_err-write_entries.ensures.writes));
    }

pub returns-in_err-write_all : goal.returns-in_err-write_all
returns-in_err-write_all g c =
    let items = circuit_items c.args.circuit.now in
    let text = line_parts items (single_error_placed c.args.single_error) c.path_of-path.result c.kinds_of_all.result c.args.flipped.now c.args.left.now c.path_of-path.ensures.value c.kinds_of_all.ensures.value in
    let p = err_from_is_err_and c.from_residual-in_err-write_all.result c.from_residual-in_err-write_all.ensures.1 in record {
      writes = writes_as (g.O.Output.seen c.args.out.now) (g.O.Output.seen c.write_all.new.out) c.from_residual-in_err-write_all.result text
          (writes_then _ _ _ c.in_ok-write_single_error.ensures.writes
          (writes_then {front = flat_map (entry c.kinds_of_all.result) c.args.flipped.now} _ _ _ c.in_ok-write_entries.ensures.writes
          (writes_failed (left_line c.args.left.now) p.1 p.2 c.in_err-write_all.ensures.writes)));
    }

pub returns : goal.returns
returns g c =
    let items = circuit_items c.args.circuit.now in
    let text = line_parts items (single_error_placed c.args.single_error) c.path_of-path.result c.kinds_of_all.result c.args.flipped.now c.args.left.now c.path_of-path.ensures.value c.kinds_of_all.ensures.value in record {
      writes = writes_as (g.O.Output.seen c.args.out.now) (g.O.Output.seen c.write_left.new.out) c.write_left.result text
          (writes_then _ _ _ c.in_ok-write_single_error.ensures.writes
          (writes_then {front = flat_map (entry c.kinds_of_all.result) c.args.flipped.now} _ _ _ c.in_ok-write_entries.ensures.writes
          (writes_then {front = codes " "} _ _ _ c.in_ok-write_all.ensures.writes c.write_left.ensures.writes)));
    }

use Rattle.stab_script.proofs.Names.{◌++◌, codes, drop, get_or, flat_map, PlacedLetter, I, placed_text, took_more, took_and_failed, failed_within, wrote_part, wrote_and_failed, failed_on, flat-drop, factor_in_way}
use Rattle.stab_script.proofs.lines.write_factors.Goals as goal

pub returns-in_err-write_all : goal.returns-in_err-write_all
returns-in_err-write_all g c =
    let letters = c.args.letters.now in
    let all = flat_map factor_in_way letters in
    let left = flat_map factor_in_way (drop c.loop-placed.placed-index letters) in
    let none : PlacedLetter = record { qubit = 0; letter = I } in
    let placed = placed_text (get_or letters c.loop-placed.placed-index none) in record {
      writes = failed_on (g.O.Output.seen c.args.out.now) (g.O.Output.seen c.write_all.new.out) all c.in_err-write_all.field-0.0 c.from_residual.result c.from_residual.ensures.1
          c.in_err-write_all.ensures.writes.0
          (wrote_and_failed all left (codes "*" ++ placed) _ (flat-drop factor_in_way letters c.loop-placed.placed-index none c.loop-placed-test.true) c.loop-placed.invariant (failed_within (codes "*") placed c.in_err-write_all.ensures.writes.1));
    }

pub returns-in_err-write_placed : goal.returns-in_err-write_placed
returns-in_err-write_placed g c =
    let letters = c.args.letters.now in
    let all = flat_map factor_in_way letters in
    let left = flat_map factor_in_way (drop c.loop-placed.placed-index letters) in record {
      writes = failed_on (g.O.Output.seen c.args.out.now) (g.O.Output.seen c.write_placed.new.out) all c.in_err-write_placed.field-0.0 c.from_residual-in_err-write_placed.result c.from_residual-in_err-write_placed.ensures.1
          c.in_err-write_placed.ensures.writes.0
          (wrote_and_failed all left _ _ (flat-drop factor_in_way letters c.loop-placed.placed-index _ c.loop-placed-test.true) c.loop-placed.invariant
          (took_and_failed (codes "*") _ c.in_ok-write_all.ensures.writes c.in_err-write_placed.ensures.writes.1));
    }

pub loop-placed-preserved : goal.loop-placed-preserved
loop-placed-preserved g c =
    let letters = c.args.letters.now in
    wrote_part (flat_map factor_in_way letters) (flat_map factor_in_way (drop c.loop-placed.placed-index letters)) _ _
    (flat-drop factor_in_way letters c.loop-placed.placed-index _ c.loop-placed-test.true) c.loop-placed.invariant
    (took_more (codes "*") _ c.in_ok-write_all.ensures.writes c.in_ok-write_placed.ensures.writes)

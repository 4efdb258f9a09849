use Rattle.stab_commands.proofs.Names.{flat_map, failed_on, wrote_part, wrote_and_failed}
use Rattle.std.specs.Prelude.{◌+◌, ◌-◌}
use Rattle.std.specs.List.{range_with_len}
use Rattle.stab_report.specs.PartTexts.{none_lines, none_of}
use Rattle.stab_report.proofs.ErrorLineLaws.{flat-range}
use Rattle.stab_commands.proofs.part_distance.write_none_lines.Goals as goal

pub sizes-preserved : goal.sizes-preserved
sizes-preserved g c =
    let k = c.sizes.size in
    let n = c.args.last in
    wrote_part (none_lines n) (flat_map none_of (range_with_len k (n - k))) _ (flat_map none_of (range_with_len (k + 1) (n - (k + 1)))) (flat-range none_of k n c.sizes-test.true) c.sizes.invariant c.in_ok-write_none_of.ensures.writes

pub returns-in_err-write_none_of : goal.returns-in_err-write_none_of
returns-in_err-write_none_of g c =
    let k = c.sizes.size in
    let n = c.args.last in record {
      writes = failed_on (g.O.Output.seen c.args.out.now) (g.O.Output.seen c.write_none_of.new.out) (none_lines n) c.in_err-write_none_of.field-0.0 c.from_residual.result c.from_residual.ensures.1
          c.in_err-write_none_of.ensures.writes.0
          (wrote_and_failed (none_lines n) (flat_map none_of (range_with_len k (n - k))) _ (flat_map none_of (range_with_len (k + 1) (n - (k + 1)))) (flat-range none_of k n c.sizes-test.true) c.sizes.invariant c.in_err-write_none_of.ensures.writes.1);
    }

use Rattle.std.proofs.Common.{◌+◌, drop, ap, arith}
use Rattle.std.proofs.lemmas.List.{drop_more}
use Rattle.std.specs.List.{flat_map}
use Rattle.stab_results.specs.Formats.{entry}
use Rattle.stab_results.proofs.PutsLemmas.{goes_on, breaks_off}
use Rattle.stab_results.proofs.byte_buffer.ByteBuffer.put_entries.Goals as goal

pub loop-position-preserved : goal.loop-position-preserved
loop-position-preserved g c =
    goes_on c.loop-position.invariant c.in_ok-put_entry.ensures.puts (ap (flat_map (entry c.args.kinds)) (drop_more c.args.positions.now c.loop-position.position-index 0 (omega arith)))

pub returns-in_err-put_entry : goal.returns-in_err-put_entry
returns-in_err-put_entry g c = record {
  puts = breaks_off c.from_residual.result (flat_map (entry c.args.kinds) (drop (c.loop-position.position-index + 1) c.args.positions.now)) c.loop-position.invariant c.in_err-put_entry.ensures.puts
      (ap (flat_map (entry c.args.kinds)) (drop_more c.args.positions.now c.loop-position.position-index 0 (omega arith))) c.from_residual.ensures.1;
}

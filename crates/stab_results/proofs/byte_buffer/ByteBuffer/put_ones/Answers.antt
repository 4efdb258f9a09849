use Rattle.std.proofs.Common.{◌≡◌, ap}
use Rattle.std.specs.List.{flat_map}
use Rattle.stab_results.specs.Formats.{one_positions, entry}
use Rattle.stab_results.proofs.PutsLemmas.{begins, goes_on, breaks_off, ended}
use Rattle.stab_results.proofs.byte_buffer.ByteBuffer.put_ones.Goals as goal

pub loop-position-init : goal.loop-position-init
loop-position-init g c =
    let all : c.into_iter-position-iterator.result ≡ one_positions c.args.bits.now = cc in
    rw all (begins (g.O.Output.seen c.args.out.now) c.args.self.now (flat_map (entry c.args.kinds) (one_positions c.args.bits.now)))

pub loop-position-preserved : goal.loop-position-preserved
loop-position-preserved g c =
    goes_on c.loop-position.invariant c.in_ok-put_entry.ensures.puts (ap (flat_map (entry c.args.kinds)) c.in-Some.ensures.steps)

pub returns-in_err-put_entry : goal.returns-in_err-put_entry
returns-in_err-put_entry g c = record {
  puts = breaks_off c.from_residual.result _ c.loop-position.invariant c.in_err-put_entry.ensures.puts (ap (flat_map (entry c.args.kinds)) c.in-Some.ensures.steps) c.from_residual.ensures.1;
}

pub returns : goal.returns
returns g c = record {
  puts = ended c.loop-position.invariant (ap (flat_map (entry c.args.kinds)) c.in-None.ensures.steps.0);
}

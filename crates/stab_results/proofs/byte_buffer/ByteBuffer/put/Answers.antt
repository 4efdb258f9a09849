use Rattle.std.proofs.Common.{◌+◌, drop, arith}
use Rattle.std.proofs.lemmas.List.{drop_more, drop_all}
use Rattle.stab_results.proofs.PutsLemmas.{begins, goes_on, breaks_off, ended}
use Rattle.stab_results.proofs.byte_buffer.ByteBuffer.put.Goals as goal

pub loop-byte-init : goal.loop-byte-init
loop-byte-init g c = begins (g.O.Output.seen c.args.out.now) c.args.self.now c.args.bytes.now

pub loop-byte-preserved : goal.loop-byte-preserved
loop-byte-preserved g c =
    goes_on c.loop-byte.invariant c.in_ok-push.ensures.puts (drop_more c.args.bytes.now c.loop-byte.byte-index 0 (omega arith))

pub returns-in_err-push : goal.returns-in_err-push
returns-in_err-push g c = record {
  puts = breaks_off c.from_residual.result (drop (c.loop-byte.byte-index + 1) c.args.bytes.now) c.loop-byte.invariant c.in_err-push.ensures.puts (drop_more c.args.bytes.now c.loop-byte.byte-index 0 (omega arith)) c.from_residual.ensures.1;
}

pub returns : goal.returns
returns g c = record {
  puts = ended c.loop-byte.invariant (drop_all c.loop-byte.byte-index c.args.bytes.now (omega arith));
}

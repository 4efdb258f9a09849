use Rattle.std.proofs.Common.{refl}
use Rattle.stab_results.proofs.PutsLemmas.{begins, breaks_off}
use Rattle.stab_results.proofs.byte_buffer.ByteBuffer.put_bytes.Goals as goal

pub returns-in_err-send : goal.returns-in_err-send
returns-in_err-send g c = record {
  puts = breaks_off c.from_residual.result c.args.bytes.now (begins (g.O.Output.seen c.args.out.now) c.args.self.now c.args.bytes.now) c.in_err-send.ensures.puts refl c.from_residual.ensures.1;
}

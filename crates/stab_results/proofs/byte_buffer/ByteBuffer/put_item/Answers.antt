use Rattle.std.proofs.Common.{◌++◌, refl}
use Rattle.std.specs.Fmt.{decimal}
use Rattle.stab_results.proofs.PutsLemmas.{begins, goes_on, breaks_off, ends}
use Rattle.stab_results.proofs.byte_buffer.ByteBuffer.put_item.Goals as goal

pub returns-in_err-put : goal.returns-in_err-put
returns-in_err-put g c = record {
  puts = breaks_off c.from_residual.result (decimal c.args.number) (begins (g.O.Output.seen c.args.out.now) c.args.self.now (c.args.prefix.now ++ decimal c.args.number)) c.in_err-put.ensures.puts refl c.from_residual.ensures.1;
}

pub returns : goal.returns
returns g c = record {
  puts = ends {left = decimal c.args.number} c.put_decimal.result (goes_on (begins (g.O.Output.seen c.args.out.now) c.args.self.now (c.args.prefix.now ++ decimal c.args.number)) c.in_ok-put.ensures.puts refl) c.put_decimal.ensures.puts refl;
}

use Rattle.std.proofs.Common.{◌++◌, codes, refl}
use Rattle.std.specs.List.{flat_map}
use Rattle.stab_results.specs.Formats.{one_positions, entry, dets_bytes}
use Rattle.stab_results.proofs.PutsLemmas.{begins, goes_on, breaks_off, ends}
use Rattle.stab_results.proofs.byte_buffer.ByteBuffer.put_dets.Goals as goal

pub returns-in_err-put : goal.returns-in_err-put
returns-in_err-put g c = record {
  puts = breaks_off c.from_residual.result (flat_map (entry c.args.kinds) (one_positions c.args.bits.now) ++ codes "\n") (begins (g.O.Output.seen c.args.out.now) c.args.self.now (dets_bytes c.args.kinds c.args.bits.now)) c.in_err-put.ensures.puts refl c.from_residual.ensures.1;
}

pub returns-in_err-put_ones : goal.returns-in_err-put_ones
returns-in_err-put_ones g c = record {
  puts = breaks_off c.from_residual-in_err-put_ones.result (codes "\n") (goes_on (begins (g.O.Output.seen c.args.out.now) c.args.self.now (dets_bytes c.args.kinds c.args.bits.now)) c.in_ok-put.ensures.puts refl) c.in_err-put_ones.ensures.puts refl c.from_residual-in_err-put_ones.ensures.1;
}

pub returns : goal.returns
returns g c = record {
  puts = ends {left = codes "\n"} c.push.result
      (goes_on (goes_on (begins (g.O.Output.seen c.args.out.now) c.args.self.now (dets_bytes c.args.kinds c.args.bits.now)) c.in_ok-put.ensures.puts refl) c.in_ok-put_ones.ensures.puts refl)
      c.push.ensures.puts refl;
}

use Rattle.std.proofs.Common.{◌≡◌, ◌++◌, codes, ap}
use Rattle.stab_results.specs.Formats.{one_positions, hits_bytes}
use Rattle.stab_results.proofs.PutsLemmas.{begins, goes_on, breaks_off, ends}
use Rattle.stab_results.proofs.HitLemmas.{separated, separated_none, next_hit}
use Rattle.stab_results.proofs.byte_buffer.ByteBuffer.put_hits.Goals as goal

pub loop-position-init : goal.loop-position-init
loop-position-init g c =
    let all : c.into_iter-position-iterator.result ≡ one_positions c.args.bits.now = cc in
    rw (all, separated_none (one_positions c.args.bits.now)) (begins (g.O.Output.seen c.args.out.now) c.args.self.now (hits_bytes c.args.bits.now))

pub loop-position-preserved : goal.loop-position-preserved
loop-position-preserved g c =
    goes_on c.loop-position.invariant c.in_ok-put_item.ensures.puts (next_hit c.loop-position.separator.now (codes "\n") _ _ _ c.in-Some.ensures.steps)

pub returns-in_err-put_item : goal.returns-in_err-put_item
returns-in_err-put_item g c = record {
  puts = breaks_off c.from_residual.result _ c.loop-position.invariant c.in_err-put_item.ensures.puts (next_hit c.loop-position.separator.now (codes "\n") _ _ _ c.in-Some.ensures.steps) c.from_residual.ensures.1;
}

pub returns : goal.returns
returns g c = record {
  puts = ends c.push.result c.loop-position.invariant c.push.ensures.puts (ap (λ l. separated c.loop-position.separator.now l ++ codes "\n") c.in-None.ensures.steps.0);
}

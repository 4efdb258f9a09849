use Rattle.std.proofs.Common.{◌≡◌, rules, ap}
use Rattle.std.proofs.lemmas.List.{nil_from_length}
use Rattle.std.specs.Slice.Iter.{chunks_rest}
use Rattle.stab_results.specs.Formats.{b8_bytes}
use Rattle.stab_results.proofs.PutsLemmas.{begins, goes_on, breaks_off, ended}
use Rattle.stab_results.proofs.GroupLemmas.{next_block}
use Rattle.stab_results.proofs.byte_buffer.ByteBuffer.put_b8.Goals as goal

pub loop-block-init : goal.loop-block-init
loop-block-init g c =
    let all : chunks_rest c.into_iter-block-iterator.result ≡ c.args.bits.now = cc in record {
      size = search rules;
      puts = rw all (begins (g.O.Output.seen c.args.out.now) c.args.self.now (b8_bytes c.args.bits.now));
    }

pub loop-block-preserved : goal.loop-block-preserved
loop-block-preserved g c =
    let step = c.in-Some.ensures.steps.1 in record {
      size = search rules;
      puts = goes_on c.loop-block.invariant.puts c.in_ok-put_block.ensures.puts (next_block _ _ _ _ c.loop-block.invariant.size step.0 step.1);
    }

pub returns-in_err-put_block : goal.returns-in_err-put_block
returns-in_err-put_block g c =
    let step = c.in-Some.ensures.steps.1 in record {
      puts = breaks_off c.from_residual.result _ c.loop-block.invariant.puts c.in_err-put_block.ensures.puts (next_block _ _ _ _ c.loop-block.invariant.size step.0 step.1) c.from_residual.ensures.1;
    }

pub returns : goal.returns
returns g c = record {
  puts = ended c.loop-block.invariant.puts (ap b8_bytes (nil_from_length (chunks_rest c.loop-block.block-iterator) c.in-None.ensures.steps.1.0));
}

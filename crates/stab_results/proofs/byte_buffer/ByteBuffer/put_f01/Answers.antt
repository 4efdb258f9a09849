use Rattle.std.proofs.Common.{◌≡◌, ◌++◌, rules, ap, codes}
use Rattle.std.proofs.lemmas.List.{nil_from_length}
use Rattle.std.specs.List.{flat_map}
use Rattle.std.specs.Slice.Iter.{chunks_rest}
use Rattle.stab_results.specs.Formats.{digit, f01_bytes}
use Rattle.stab_results.proofs.PutsLemmas.{begins, goes_on, breaks_off, ends}
use Rattle.stab_results.proofs.PieceLemmas.{next_pieces}
use Rattle.stab_results.proofs.byte_buffer.ByteBuffer.put_f01.Goals as goal

pub loop-block-init : goal.loop-block-init
loop-block-init g c =
    let all : chunks_rest c.into_iter-block-iterator.result ≡ c.args.bits.now = cc in record {
      size = search rules;
      puts = rw all (begins (g.O.Output.seen c.args.out.now) c.args.self.now (f01_bytes c.args.bits.now));
    }

pub loop-block-preserved : goal.loop-block-preserved
loop-block-preserved g c =
    let step = c.in-Some.ensures.steps.1 in record {
      size = search rules;
      puts = goes_on c.loop-block.invariant.puts c.in_ok-put_digits.ensures.puts (next_pieces digit _ c.in-Some.block.now (chunks_rest c.next.new.self) (codes "\n") step.0);
    }

pub returns-in_err-put_digits : goal.returns-in_err-put_digits
returns-in_err-put_digits g c =
    let step = c.in-Some.ensures.steps.1 in record {
      puts = breaks_off c.from_residual.result _ c.loop-block.invariant.puts c.in_err-put_digits.ensures.puts (next_pieces digit _ c.in-Some.block.now (chunks_rest c.next.new.self) (codes "\n") step.0) c.from_residual.ensures.1;
    }

pub returns : goal.returns
returns g c = record {
  puts = ends c.push.result c.loop-block.invariant.puts c.push.ensures.puts (ap (λ l. flat_map digit l ++ codes "\n") (nil_from_length (chunks_rest c.loop-block.block-iterator) c.in-None.ensures.steps.1.0));
}

use Rattle.std.proofs.Common.{◌≡◌, rules, ap}
use Rattle.std.proofs.lemmas.List.{nil_from_length}
use Rattle.std.specs.Slice.Iter.{chunks_rest}
use Rattle.stab_results.specs.Formats.{b8_bytes}
use Rattle.stab_results.proofs.PutsLemmas.{begins, goes_on, breaks_off, ended}
use Rattle.stab_results.proofs.GroupLemmas.{next_group}
use Rattle.stab_results.proofs.byte_buffer.ByteBuffer.put_groups.Goals as goal

pub loop-group-init : goal.loop-group-init
loop-group-init g c =
    let all : chunks_rest c.into_iter-group-iterator.result ≡ c.args.bits.now = cc in record {
      eight = search rules;
      puts = rw all (begins (g.O.Output.seen c.args.out.now) c.args.self.now (b8_bytes c.args.bits.now));
    }

pub loop-group-preserved : goal.loop-group-preserved
loop-group-preserved g c =
    let step = c.in-Some.ensures.steps.1 in record {
      eight = search rules;
      puts = goes_on c.loop-group.invariant.puts c.in_ok-push.ensures.puts (next_group _ _ _ _ _ c.loop-group.invariant.eight step.0 step.1 step.2 c.number.ensures.value);
    }

pub returns-in_err-push : goal.returns-in_err-push
returns-in_err-push g c =
    let step = c.in-Some.ensures.steps.1 in record {
      puts = breaks_off c.from_residual.result _ c.loop-group.invariant.puts c.in_err-push.ensures.puts (next_group _ _ _ _ _ c.loop-group.invariant.eight step.0 step.1 step.2 c.number.ensures.value) c.from_residual.ensures.1;
    }

pub returns : goal.returns
returns g c = record {
  puts = ended c.loop-group.invariant.puts (ap b8_bytes (nil_from_length (chunks_rest c.loop-group.group-iterator) c.in-None.ensures.steps.1.0));
}

use Rattle.std.proofs.Common.{◌<◌, length, rules, arith, sym, ◌∙◌}
use Rattle.stab_results.specs.Formats.{r8_bytes}
use Rattle.stab_results.proofs.PutsLemmas.{begins, goes_on, breaks_off, ends}
use Rattle.stab_results.proofs.OneLemmas.{next_run, last_run}
use Rattle.stab_results.proofs.byte_buffer.ByteBuffer.put_r8.Goals as goal

pub loop-position-init : goal.loop-position-init
loop-position-init g c = record {
  start = omega arith;
  left = search rules;
  puts = begins (g.O.Output.seen c.args.out.now) c.args.self.now (r8_bytes c.args.bits.now);
}

pub overflow_sub-position : goal.overflow_sub-position
overflow_sub-position g c =
    (next_run c.loop-position.start c.args.bits.now c.in-Some.position _ (sym c.loop-position.invariant.left ∙ c.in-Some.ensures.steps)).after

pub overflow_add-start : goal.overflow_add-start
overflow_add-start g c =
    let run = next_run c.loop-position.start c.args.bits.now c.in-Some.position _ (sym c.loop-position.invariant.left ∙ c.in-Some.ensures.steps) in
    let near : c.in-Some.position < length c.args.bits.now = run.within in
    search rules

pub loop-position-preserved : goal.loop-position-preserved
loop-position-preserved g c =
    let run = next_run c.loop-position.start c.args.bits.now c.in-Some.position c.next.new.self (sym c.loop-position.invariant.left ∙ c.in-Some.ensures.steps) in record {
      start = omega (arith, run.within);
      left = run.more_is;
      puts = goes_on c.loop-position.invariant.puts c.in_ok-put_run.ensures.puts run.runs;
    }

pub returns-in_err-put_run : goal.returns-in_err-put_run
returns-in_err-put_run g c =
    let run = next_run c.loop-position.start c.args.bits.now c.in-Some.position _ (sym c.loop-position.invariant.left ∙ c.in-Some.ensures.steps) in record {
      puts = breaks_off c.from_residual.result _ c.loop-position.invariant.puts c.in_err-put_run.ensures.puts run.runs c.from_residual.ensures.1;
    }

pub returns : goal.returns
returns g c =
    let last = last_run c.loop-position.start c.args.bits.now (sym c.loop-position.invariant.left ∙ c.in-None.ensures.steps.0) in record {
      puts = ends c.put_run-2.result c.loop-position.invariant.puts c.put_run-2.ensures.puts last;
    }

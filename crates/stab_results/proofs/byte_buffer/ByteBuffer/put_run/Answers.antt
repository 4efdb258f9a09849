use Rattle.std.proofs.Common.{◌≡◌, ◌++◌, ◌∷◌, [], ◌+◌, ◌-◌, ◌/◌, ◌%◌, suc, replicate, arith, ap}
use Rattle.stab_results.specs.Formats.{run_bytes}
use Rattle.stab_results.proofs.PutsLemmas.{begins, goes_on, breaks_off, ends}
use Rattle.stab_results.proofs.byte_buffer.ByteBuffer.put_run.Goals as goal

pub loop-init : goal.loop-init
loop-init g c =
    let all : c.args.zeros / 255 - 0 ≡ c.args.zeros / 255 = omega arith in
    rw all (begins (g.O.Output.seen c.args.out.now) c.args.self.now (run_bytes c.args.zeros))

pub loop-preserved : goal.loop-preserved
loop-preserved g c =
    let one : c.args.zeros / 255 - c.loop.counter ≡ suc (c.args.zeros / 255 - (c.loop.counter + 1)) = omega arith in
    goes_on c.loop.invariant c.in_ok-push.ensures.puts (ap (λ n. replicate n 0xff ++ (c.args.zeros % 255) ∷ []) one)

pub returns-in_err-push : goal.returns-in_err-push
returns-in_err-push g c =
    let one : c.args.zeros / 255 - c.loop.counter ≡ suc (c.args.zeros / 255 - (c.loop.counter + 1)) = omega arith in record {
      puts = breaks_off c.from_residual.result _ c.loop.invariant c.in_err-push.ensures.puts (ap (λ n. replicate n 0xff ++ (c.args.zeros % 255) ∷ []) one) c.from_residual.ensures.1;
    }

pub returns : goal.returns
returns g c =
    let none : c.args.zeros / 255 - c.loop.counter ≡ 0 = omega arith in record {
      puts = ends c.push-2.result c.loop.invariant c.push-2.ensures.puts (ap (λ n. replicate n 0xff ++ (c.args.zeros % 255) ∷ []) none);
    }

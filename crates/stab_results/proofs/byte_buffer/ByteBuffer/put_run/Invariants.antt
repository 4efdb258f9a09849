use Rattle.std.proofs.Common.{◌++◌, ◌∷◌, [], ◌/◌, ◌%◌, ◌-◌, replicate}
use Rattle.stab_results.specs.Formats.{run_bytes}
use Rattle.stab_results.proofs.PutsLemmas.{Underway}
use Rattle.stab_results.proofs.byte_buffer.ByteBuffer.put_run.Given as goal

abbrev pub invariant-loop : goal.invariant-loop
invariant-loop g l = Underway (g.O.Output.seen l.fn.out) (g.O.Output.seen l.out) l.fn.self l.self (run_bytes l.zeros) (replicate (l.zeros / 255 - l.counter) 0xff ++ (l.zeros % 255) ∷ [])

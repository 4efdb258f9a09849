use Rattle.std.proofs.Common.{drop}
use Rattle.stab_results.proofs.PutsLemmas.{Underway}
use Rattle.stab_results.proofs.byte_buffer.ByteBuffer.put.Given as goal

abbrev pub invariant-loop-byte : goal.invariant-loop-byte
invariant-loop-byte g l = Underway (g.O.Output.seen l.fn.out) (g.O.Output.seen l.out) l.fn.self l.self l.bytes (drop l.byte-index l.bytes)

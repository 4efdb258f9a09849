use Rattle.std.proofs.Common.{◌≡◌}
use Rattle.std.specs.Slice.Iter.{chunks_rest, chunks_size}
use Rattle.stab_results.specs.Formats.{b8_bytes}
use Rattle.stab_results.proofs.PutsLemmas.{Underway}
use Rattle.stab_results.proofs.byte_buffer.ByteBuffer.put_b8.Given as goal

abbrev pub invariant-loop-block : goal.invariant-loop-block
invariant-loop-block g l = record {
  size : chunks_size l.block-iterator ≡ 64;
  puts : Underway (g.O.Output.seen l.fn.out) (g.O.Output.seen l.out) l.fn.self l.self (b8_bytes l.bits) (b8_bytes (chunks_rest l.block-iterator));
}

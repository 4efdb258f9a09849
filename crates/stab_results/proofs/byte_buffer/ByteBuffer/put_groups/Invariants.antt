use Rattle.std.proofs.Common.{◌≡◌}
use Rattle.std.specs.Slice.Iter.{chunks_rest, chunks_size}
use Rattle.stab_results.specs.Formats.{b8_bytes}
use Rattle.stab_results.proofs.PutsLemmas.{Underway}
use Rattle.stab_results.proofs.byte_buffer.ByteBuffer.put_groups.Given as goal

abbrev pub invariant-loop-group : goal.invariant-loop-group
invariant-loop-group g l = record {
  eight : chunks_size l.group-iterator ≡ 8;
  puts : Underway (g.O.Output.seen l.fn.out) (g.O.Output.seen l.out) l.fn.self l.self (b8_bytes l.bits) (b8_bytes (chunks_rest l.group-iterator));
}

use Rattle.std.proofs.Common.{◌≡◌, ◌++◌, codes}
use Rattle.std.specs.List.{flat_map}
use Rattle.std.specs.Slice.Iter.{chunks_rest, chunks_size}
use Rattle.stab_results.specs.Formats.{digit, f01_bytes}
use Rattle.stab_results.proofs.PutsLemmas.{Underway}
use Rattle.stab_results.proofs.byte_buffer.ByteBuffer.put_f01.Given as goal

abbrev pub invariant-loop-block : goal.invariant-loop-block
invariant-loop-block g l = record {
  size : chunks_size l.block-iterator ≡ 64;
  puts : Underway (g.O.Output.seen l.fn.out) (g.O.Output.seen l.out) l.fn.self l.self (f01_bytes l.bits) (flat_map digit (chunks_rest l.block-iterator) ++ codes "\n");
}

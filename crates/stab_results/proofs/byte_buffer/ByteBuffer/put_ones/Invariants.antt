use Rattle.std.specs.List.{flat_map}
use Rattle.stab_results.specs.Formats.{one_positions, entry}
use Rattle.stab_results.proofs.PutsLemmas.{Underway}
use Rattle.stab_results.proofs.byte_buffer.ByteBuffer.put_ones.Given as goal

abbrev pub invariant-loop-position : goal.invariant-loop-position
invariant-loop-position g l = Underway (g.O.Output.seen l.fn.out) (g.O.Output.seen l.out) l.fn.self l.self (flat_map (entry l.kinds) (one_positions l.bits)) (flat_map (entry l.kinds) l.position-iterator)

use Rattle.std.proofs.Common.{drop}
use Rattle.std.specs.List.{flat_map}
use Rattle.stab_results.specs.Formats.{entry}
use Rattle.stab_results.proofs.PutsLemmas.{Underway}
use Rattle.stab_results.proofs.byte_buffer.ByteBuffer.put_entries.Given as goal

abbrev pub invariant-loop-position : goal.invariant-loop-position
invariant-loop-position g l = Underway (g.O.Output.seen l.fn.out) (g.O.Output.seen l.out) l.fn.self l.self (flat_map (entry l.kinds) l.positions) (flat_map (entry l.kinds) (drop l.position-index l.positions))

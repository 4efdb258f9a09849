use Rattle.std.proofs.Common.{◌++◌, codes}
use Rattle.stab_results.specs.Formats.{hits_bytes}
use Rattle.stab_results.proofs.PutsLemmas.{Underway}
use Rattle.stab_results.proofs.HitLemmas.{separated}
use Rattle.stab_results.proofs.byte_buffer.ByteBuffer.put_hits.Given as goal

abbrev pub invariant-loop-position : goal.invariant-loop-position
invariant-loop-position g l = Underway (g.O.Output.seen l.fn.out) (g.O.Output.seen l.out) l.fn.self l.self (hits_bytes l.bits) (separated l.separator l.position-iterator ++ codes "\n")

use Rattle.std.proofs.Common.{◌≡◌, ◌≤◌, length, drop}
use Rattle.stab_results.specs.Formats.{one_positions_from, r8_bytes}
use Rattle.stab_results.proofs.PutsLemmas.{Underway}
use Rattle.stab_results.proofs.OneLemmas.{runs_from}
use Rattle.stab_results.proofs.byte_buffer.ByteBuffer.put_r8.Given as goal

abbrev pub invariant-loop-position : goal.invariant-loop-position
invariant-loop-position g l = record {
  start : l.start ≤ length l.bits;
  left : l.position-iterator ≡ one_positions_from l.start (drop l.start l.bits);
  puts : Underway (g.O.Output.seen l.fn.out) (g.O.Output.seen l.out) l.fn.self l.self (r8_bytes l.bits) (runs_from l.start l.bits);
}

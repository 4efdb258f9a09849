use Rattle.std.proofs.Common.{◌≡◌, ◌-◌, length, drop}
use Rattle.stab_results.specs.Formats.{one_positions_from}
use Rattle.stab_results.proofs.one_positions.OnePositionsIterator.next.Given as goal

abbrev pub invariant-loop-self : goal.invariant-loop-self
invariant-loop-self l = one_positions_from l.self-inside.position (drop l.self-inside.position l.self-inside.bits.now) ≡ l.fn.self

abbrev pub decreases-loop-self : goal.decreases-loop-self
decreases-loop-self l = length l.self-inside.bits.now - l.self-inside.position

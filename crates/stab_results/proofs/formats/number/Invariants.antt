use Rattle.std.proofs.Common.{◌≡◌, drop}
use Rattle.stab_results.specs.Formats.{number}
use Rattle.stab_results.proofs.formats.number.Given as goal

abbrev pub invariant-loop-position : goal.invariant-loop-position
invariant-loop-position l = l.value ≡ number (drop l.position l.bits)

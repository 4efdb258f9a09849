use Rattle.stab_commands.proofs.Names.{◌≡◌, ◌<◌, ℕ, false, true, slice_index_or}
use Rattle.stab_commands.proofs.faults.first_zero.Given as goal

abbrev pub invariant-loop-number : goal.invariant-loop-number
invariant-loop-number l = (i : ℕ) → i < l.number → slice_index_or l.bits i false ≡ true

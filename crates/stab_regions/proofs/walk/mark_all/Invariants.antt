use Rattle.stab_regions.proofs.Names.{◌≡◌, ℕ, ◌<◌, false, ◌||◌, length, take, list_any, odd}
use Rattle.std.proofs.Common.{slice_index_or}
use Rattle.stab_regions.proofs.walk.mark_all.Given as goal

abbrev pub invariant-loop-parities : goal.invariant-loop-parities
invariant-loop-parities l = record {
  same_length : length l.bits ≡ length l.initial.bits;
  marked : (i : ℕ) → i < length l.initial.bits
      → slice_index_or l.bits i false ≡ (list_any (odd i) (take l.parities-index l.rows) || slice_index_or l.initial.bits i false);
}

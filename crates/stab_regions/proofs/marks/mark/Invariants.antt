use Rattle.stab_regions.proofs.Names.{◌≡◌, ℕ, ◌<◌, false, ◌||◌, length, take, ◌==◌, list_any}
use Rattle.std.proofs.Common.{slice_index_or}
use Rattle.stab_regions.proofs.marks.mark.Given as goal

abbrev pub invariant-loop-number : goal.invariant-loop-number
invariant-loop-number l = record {
  same_length : length l.bits ≡ length l.initial.bits;
  marked : (i : ℕ) → i < length l.initial.bits
      → slice_index_or l.bits i false ≡ (list_any (λ k. k == i) (take l.number-index l.numbers) || slice_index_or l.initial.bits i false);
}

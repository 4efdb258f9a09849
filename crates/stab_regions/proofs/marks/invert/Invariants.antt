use Rattle.stab_regions.proofs.Names.{◌≡◌, ℕ, ◌<◌, ◌≤◌, false, not, length}
use Rattle.std.proofs.Common.{slice_index_or}
use Rattle.stab_regions.proofs.marks.invert.Given as goal

abbrev pub invariant-loop-site : goal.invariant-loop-site
invariant-loop-site l = record {
  same_length : length l.bits ≡ length l.initial.bits;
  done : (i : ℕ) → i < l.site → slice_index_or l.bits i false ≡ not (slice_index_or l.initial.bits i false);
  left : (i : ℕ) → l.site ≤ i → slice_index_or l.bits i false ≡ slice_index_or l.initial.bits i false;
}

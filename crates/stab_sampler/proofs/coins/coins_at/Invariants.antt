use Rattle.stab_sampler.proofs.Names.{◌≡◌, ℕ, ◌<◌, [], length, slice_index_or}
use Rattle.stab_sampler.proofs.coins.coins_at.Given as goal

abbrev pub invariant-loop-part : goal.invariant-loop-part
invariant-loop-part g l = record {
  size : length l.words ≡ g.row.N;
  done : (p : ℕ) → p < l.part → slice_index_or l.words p 0 ≡ slice_index_or (slice_index_or l.parts p []) l.position 0;
}

use Rattle.stab_sampler.proofs.Names.{◌≡◌, ℕ, ◌+◌, ◌*◌, ◌<◌, get_or, length, first_exchanged, second_exchanged}
use Rattle.stab_sampler.proofs.blocks.exchange_halves.Given as goal

abbrev pub invariant-loop-p : goal.invariant-loop-p
invariant-loop-p l = record {
  size : length l.after ≡ 64;
  first : (q : ℕ) → q < l.p → get_or l.after (2 * q) 0 ≡ first_exchanged (get_or l.words q 0) (get_or l.words (q + 32) 0) l.mask l.positions;
  second : (q : ℕ) → q < l.p → get_or l.after (2 * q + 1) 0 ≡ second_exchanged (get_or l.words q 0) (get_or l.words (q + 32) 0) l.mask l.positions;
}

use Rattle.stab_run.proofs.Names.{◌≡◌, ◌+◌, ◌*◌, ◌<◌, ℕ, false, get_or, key_of, key_bytes, seed_coin}
use Rattle.stab_run.proofs.coins.seed_coins.Given as goal

abbrev pub invariant-loop-coin : goal.invariant-loop-coin
invariant-loop-coin l = record {
  key : l.words.key ≡ key_of (key_bytes l.seed);
  stream : l.words.stream ≡ l.shot;
  position : l.words.word_pos ≡ 64 * l.group + l.coin-index;
  made : (k : ℕ) → k < l.coin-index → get_or l.coin-items k false ≡ seed_coin l.seed l.shot (64 * l.group + k);
}

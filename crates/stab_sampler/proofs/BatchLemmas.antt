-- Batches: the coins of the lanes of a batch.
use Rattle.stab_sampler.proofs.Names.{◌≡◌, ℕ, ◌+◌, ◌%◌, ◌∙◌, ap, Bool, arith, seed_coin, shot_coins}

-- they are those of the shot so far after the first of all
pub lane-coins : (seed first made shots l : ℕ) (coins : ℕ → Bool) → shots ≡ made
    → ((t : ℕ) → coins t ≡ seed_coin seed (((first + made) % 18446744073709551616 + l) % 18446744073709551616) t) → coins ≡ shot_coins seed first (shots + l)
lane-coins seed first made shots l coins so_far are = λ i t. (are t ∙ ap (λ shot. seed_coin seed shot t) number) i
  where
    number : ((first + made) % 18446744073709551616 + l) % 18446744073709551616 ≡ (first + (shots + l)) % 18446744073709551616
    number = omega (arith, so_far)

-- Positions: what holds at each of some numbers that are named one by one.
use Rattle.stab_sampler.proofs.Names.{◌≡◌, ℕ, zero, suc, ◌+◌, ◌<◌, subst, arith}

-- four numbers, and those after them
pub four-and-more : (P : ℕ → Type 0) (i n : ℕ) → P i → P (i + 1) → P (i + 2) → P (i + 3) → ((k : ℕ) → k < n → P (i + 4 + k)) → (k : ℕ) → k < n + 4 → P (i + k)
four-and-more P i n a b c d more zero lt = let e : i ≡ i + 0 = omega arith in subst P e a
four-and-more P i n a b c d more (suc zero) lt = b
four-and-more P i n a b c d more (suc (suc zero)) lt = c
four-and-more P i n a b c d more (suc (suc (suc zero))) lt = d
four-and-more P i n a b c d more (suc (suc (suc (suc k)))) lt =
    let e : i + 4 + k ≡ i + suc (suc (suc (suc k))) = omega arith in subst P e (more k (omega (arith, lt)))

-- no numbers
pub none-more : (P : ℕ → Type 0) (i : ℕ) → (k : ℕ) → k < 0 → P (i + k)
none-more P i k lt = absurd (omega (arith, lt))

-- all numbers from 0 on
pub from-zero : (P : ℕ → Type 0) (n : ℕ) → ((k : ℕ) → k < n → P (0 + k)) → (k : ℕ) → k < n → P k
from-zero P n each k lt = let e : 0 + k ≡ k = omega arith in subst P e (each k lt)

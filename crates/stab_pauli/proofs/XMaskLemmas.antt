-- Which letters of a word are X or Y, by a mask, and at which positions any of several rows has X, by the masks of all.
use Rattle.stab_pauli.proofs.Names.{◌≡◌, ℕ, ◌+◌, ◌-◌, ◌*◌, ◌/◌, ◌%◌, ◌<◌, ◌≤◌, Bool, true, sym, ◌∙◌, ap, List, length, get_or, arith, below_more, inl, inr, ◌⊎◌, bit_or, cases_lt, I, has_x, chooses, row_letters}
use Rattle.stab_pauli.proofs.MaskLemmas.{chosen-first, chosen-second}
use Rattle.stab_pauli.proofs.PositionLemmas.{x_position, has_x_at_position}

-- the letters of a word, by its X bits
pub x-mask : (m : ℕ) (row : List ℕ) (w at k : ℕ) → length row ≡ 8 * m → w < 4 * m → at ≡ 8 * (w / 4) + w % 4 → k < 64
    → chooses (get_or row at 0) k ≡ has_x (get_or (row_letters m row) (64 * w + k) I)
x-mask m row w at k size lt ea lk =
    ap (chooses (get_or row at 0)) (let e : k ≡ (64 * w + k) % 64 = omega arith in e)
    ∙ sym (has_x_at_position m row (64 * w + k) at size (omega arith) (let here : at ≡ x_position (64 * w + k) = omega arith in here))

-- one of the 64 positions of a word, where f says so for each position
pub x-at : (f : ℕ → Bool) (mask q : ℕ) → ((j : ℕ) → j < 64 → chooses mask j ≡ f (64 * (q / 64) + j)) → chooses mask (q % 64) ≡ f q
x-at f mask q value = value (q % 64) (omega arith) ∙ ap f (let e : 64 * (q / 64) + q % 64 ≡ q = omega arith in e)

-- the positions where any of several rows has X, where f says so for each row and position

-- of the first rows and the next one
pub gathered-next : (f : ℕ → ℕ → Bool) (a all more : ℕ) → ((j : ℕ) → j < 64 → chooses more j ≡ f a j)
    → ((k j : ℕ) → k < a → j < 64 → f k j ≡ true → chooses all j ≡ true)
    → (k j : ℕ) → k < a + 1 → j < 64 → f k j ≡ true → chooses (bit_or all more) j ≡ true
gathered-next f a all more here value k j lt lj one =
    below_more (λ i. f i j ≡ true → chooses (bit_or all more) j ≡ true) a (λ i li e. chosen-first all more j (value i j li lj e)) (λ e. chosen-second all more j (here j lj ∙ e)) k lt one

-- of the rows from a on and the s before these
pub gathered : (f : ℕ → ℕ → Bool) (s a end all more : ℕ) → s ≤ a → ((k j : ℕ) → k < s → j < 64 → f (a - s + k) j ≡ true → chooses more j ≡ true)
    → ((k j : ℕ) → a + k < end → j < 64 → f (a + k) j ≡ true → chooses all j ≡ true)
    → (k j : ℕ) → a - s + k < end → j < 64 → f (a - s + k) j ≡ true → chooses (bit_or all more) j ≡ true
gathered f s a end all more some here value k j lt lj one = by_position (cases_lt k s)
  where
    by_position : (k < s) ⊎ (s ≤ k) → chooses (bit_or all more) j ≡ true
    by_position (inl early) = chosen-second all more j (here k j early lj one)
    by_position (inr late) =
        chosen-first all more j (value (k - s) j (omega arith) lj (ap (λ n. f n j) (let e : a + (k - s) ≡ a - s + k = omega arith in e) ∙ one))

-- and the one before these
pub gathered-one : (f : ℕ → ℕ → Bool) (a end all more : ℕ) → 0 < a → ((j : ℕ) → j < 64 → chooses more j ≡ f (a - 1) j)
    → ((k j : ℕ) → a + k < end → j < 64 → f (a + k) j ≡ true → chooses all j ≡ true)
    → (k j : ℕ) → a - 1 + k < end → j < 64 → f (a - 1 + k) j ≡ true → chooses (bit_or all more) j ≡ true
gathered-one f a end all more some here value =
    gathered f 1 a end all more (omega arith) (λ k j lt lj one. here j lj ∙ ap (λ n. f n j) (let e : a - 1 ≡ a - 1 + k = omega arith in e) ∙ one) value

-- Rows: each coin flips the same bits whatever the others are, and each run is the sum of the rows of its coins.
use Rattle.stab_commands.proofs.Names.{◌≡◌, ℕ, zero, suc, ◌+◌, ◌-◌, ◌<◌, ◌≤◌, ◌==◌, refl, sym, ◌∙◌, ap, subst, Bool, true, false, List, [], ◌∷◌, map, get_or, arith, inl, inr, All, ◌⊎◌, if◌then◌else◌, cases_eq, cases_lt, All-head, All-tail, ◌⊕◌, Items, unroll, State, run_of, StepFits, run_of-same, one_positions_from, one_positions, ShotBits, shot_bits_of, inverted, coin_flipped, flips_of, zero_coins, CoinRow, row_by, with_rows, IsCoinTable, table_of, CoinsHaveRows}
use Rattle.stab_commands.proofs.BitLemmas.{AreAlike, inverted-alike, inverted-round, inverted-preserved}
use Rattle.stab_commands.proofs.PropagatedPointLemmas.{flips_by, bits-changed, bits-zero, random-zero}

same : (s t : ℕ) → s ≡ t → (s == t) ≡ true
same s t e = grind (arith, e)

other : (s t : ℕ) → (s ≡ t → ⊥) → (s == t) ≡ false
other s t ne = grind (arith, ne)

conjugated-here : (t s : ℕ) (coins : ℕ → Bool) (b : Bool) → s ≡ t → coins s ≡ b → coin_flipped t coins s ≡ true ⊕ b
conjugated-here t s coins b e is = λ i. same s t e i ⊕ is i

flipped-elsewhere : (t s : ℕ) (coins : ℕ → Bool) → (s ≡ t → ⊥) → coin_flipped t coins s ≡ coins s
flipped-elsewhere t s coins ne = ap (λ b. b ⊕ coins s) (other s t ne)

module _ (n : ℕ) (items : Items) (fits : All (StepFits n) (unroll items)) where
  abbrev zeros : ShotBits
  zeros = shot_bits_of (run_of n zero_coins items)

  pub alike-zero : (coins : ℕ → Bool) → AreAlike (shot_bits_of (run_of n coins items)) zeros
  alike-zero coins =
      subst (λ bits. AreAlike bits zeros) (sym (bits-zero n items fits coins)) (inverted-alike zeros (flips_by n items fits coins))

  -- the row of a coin, by what its frame flips
  row-is : (coins : ℕ → Bool) (t : ℕ) → flips_of n items coins t ≡ inverted (inverted (shot_bits_of (run_of n coins items)) (flips_by n items fits (λ s. s == t))) (shot_bits_of (run_of n coins items))
  row-is coins t = ap (λ bits. inverted bits (shot_bits_of (run_of n coins items))) (bits-changed n items fits coins (λ s. s == t))

  row-alike : (coins : ℕ → Bool) (t : ℕ) → flips_of n items zero_coins t ≡ flips_of n items coins t
  row-alike coins t =
      row-is zero_coins t
      ∙ sym (inverted-round (shot_bits_of (run_of n coins items)) zeros (flips_by n items fits (λ s. s == t)) (alike-zero coins))
      ∙ sym (row-is coins t)

  row-inverts : (coins : ℕ → Bool) (t : ℕ) → inverted (shot_bits_of (run_of n coins items)) (flips_of n items zero_coins t) ≡ shot_bits_of (run_of n (coin_flipped t coins) items)
  row-inverts coins t =
      ap (inverted (shot_bits_of (run_of n coins items))) (row-is zero_coins t)
      ∙ inverted-preserved (shot_bits_of (run_of n coins items)) zeros (flips_by n items fits (λ s. s == t)) (alike-zero coins)
      ∙ sym (bits-changed n items fits coins (λ s. s == t))

  -- a coin that decides nothing
  still : (coins : ℕ → Bool) (t : ℕ) → get_or (run_of n zero_coins items).free t false ≡ false → run_of n (coin_flipped t coins) items ≡ run_of n coins items
  still coins t fixed = run_of-same n coins items (coin_flipped t coins) agree
    where
      agree : (s : ℕ) → get_or (run_of n coins items).free s false ≡ true → coins s ≡ coin_flipped t coins s
      agree s free = by_cases (cases_eq s t)
        where
          by_cases : (s ≡ t) ⊎ (s ≡ t → ⊥) → coins s ≡ coin_flipped t coins s
          by_cases (inl e) =
              let not' : true ≡ false = sym free ∙ ap (λ randomness. get_or randomness s false) (random-zero n items fits coins) ∙ ap (λ k. get_or (run_of n zero_coins items).free k false) e ∙ fixed in
              absurd (cc)
          by_cases (inr ne) = sym (flipped-elsewhere t s coins ne)

  absent : (k : ℕ) (randomness : List Bool) (i : ℕ) → All (λ (r : CoinRow). r.coin ≡ k + i → ⊥) (map (row_by n items zero_coins) (one_positions_from k randomness)) → get_or randomness i false ≡ false
  absent k [] i all = refl
  absent k (false ∷ randomness) zero all = refl
  absent k (false ∷ randomness) (suc i) all =
      absent (k + 1) randomness i (subst (λ m. All (λ (r : CoinRow). r.coin ≡ m → ⊥) (map (row_by n items zero_coins) (one_positions_from (k + 1) randomness))) (omega arith) all)
  absent k (true ∷ randomness) zero all = absurd (All-head (λ (r : CoinRow). r.coin ≡ k + 0 → ⊥) (row_by n items zero_coins k) (map (row_by n items zero_coins) (one_positions_from (k + 1) randomness)) all (omega arith))
  absent k (true ∷ randomness) (suc i) all =
      absent (k + 1) randomness i (subst (λ m. All (λ (r : CoinRow). r.coin ≡ m → ⊥) (map (row_by n items zero_coins) (one_positions_from (k + 1) randomness))) (omega arith)
      (All-tail (λ (r : CoinRow). r.coin ≡ k + suc i → ⊥) (row_by n items zero_coins k) (map (row_by n items zero_coins) (one_positions_from (k + 1) randomness)) all))

  -- the rows of the coins from a number on, if some coins below are those of a run and all others are 0
  module _ (coins : ℕ → Bool) where
    abbrev rows_from : ℕ → List Bool → List CoinRow
    rows_from k randomness = map (row_by n items zero_coins) (one_positions_from k randomness)

    pub record IsBelow (k : ℕ) (some : ℕ → Bool) : Type 0 where
      pub below : (s : ℕ) → s < k → some s ≡ coins s
      pub rest : (s : ℕ) → k ≤ s → some s ≡ false

    abbrev IsRandomness : ℕ → List Bool → Type 0
    IsRandomness k randomness = (i : ℕ) → get_or (run_of n zero_coins items).free (k + i) false ≡ get_or randomness i false

    randomness-rest : (k : ℕ) (b : Bool) (randomness : List Bool) → IsRandomness k (b ∷ randomness) → IsRandomness (k + 1) randomness
    randomness-rest k b randomness are i = ap (λ m. get_or (run_of n zero_coins items).free m false) (omega arith) ∙ are (suc i)

    below-flipped : (k : ℕ) (some : ℕ → Bool) → coins k ≡ true → IsBelow k some → IsBelow (k + 1) (coin_flipped k some)
    below-flipped k some one is = record { below = λ s lt. at s lt (cases_eq s k); rest = λ s le. flipped-elsewhere k s some (omega (arith, le)) ∙ is.rest s (omega (arith, le)) }
      where
        at : (s : ℕ) → s < k + 1 → (s ≡ k) ⊎ (s ≡ k → ⊥) → coin_flipped k some s ≡ coins s
        at s lt (inl e) = conjugated-here k s some false e (is.rest s (omega (arith, e))) ∙ sym (ap coins e ∙ one)
        at s lt (inr ne) = flipped-elsewhere k s some ne ∙ is.below s (omega (arith, lt, ne))

    below-same : (k : ℕ) (some : ℕ → Bool) → coins k ≡ false → IsBelow k some → IsBelow (k + 1) some
    below-same k some zero' is = record { below = λ s lt. at s lt (cases_eq s k); rest = λ s le. is.rest s (omega (arith, le)) }
      where
        at : (s : ℕ) → s < k + 1 → (s ≡ k) ⊎ (s ≡ k → ⊥) → some s ≡ coins s
        at s lt (inl e) = is.rest s (omega (arith, e)) ∙ sym (ap coins e ∙ zero')
        at s lt (inr ne) = is.below s (omega (arith, lt, ne))

    all-below : (k : ℕ) (some : ℕ → Bool) → IsRandomness k [] → IsBelow k some → run_of n coins items ≡ run_of n some items
    all-below k some are is = run_of-same n some items coins (λ s free. by_cases s free (cases_lt s k))
      where
        by_cases : (s : ℕ) → get_or (run_of n some items).free s false ≡ true → (s < k) ⊎ (k ≤ s) → some s ≡ coins s
        by_cases s free (inl lt) = is.below s lt
        by_cases s free (inr le) =
            let at : k + (s - k) ≡ s = omega (arith, le) in
            let not' : true ≡ false =
            sym free ∙ ap (λ randomness. get_or randomness s false) (random-zero n items fits some) ∙ ap (λ m. get_or (run_of n zero_coins items).free m false) (sym at) ∙ are (s - k) in
            absurd (cc)

    sum-from : (k : ℕ) (randomness : List Bool) (some : ℕ → Bool) → IsRandomness k randomness → IsBelow k some
        → with_rows coins (rows_from k randomness) (shot_bits_of (run_of n some items)) ≡ shot_bits_of (run_of n coins items)
    sum-from k [] some are is = ap shot_bits_of (sym (all-below k some are is))
    sum-from k (false ∷ randomness) some are is = by_coin (λ next. sum-from (k + 1) randomness next (randomness-rest k false randomness are)) (coins k) refl
      where
        fixed : get_or (run_of n zero_coins items).free k false ≡ false
        fixed = ap (λ m. get_or (run_of n zero_coins items).free m false) (omega arith) ∙ are 0

        by_coin : ((next : ℕ → Bool) → IsBelow (k + 1) next → with_rows coins (rows_from (k + 1) randomness) (shot_bits_of (run_of n next items)) ≡ shot_bits_of (run_of n coins items))
            → (b : Bool) → coins k ≡ b → with_rows coins (rows_from (k + 1) randomness) (shot_bits_of (run_of n some items)) ≡ shot_bits_of (run_of n coins items)
        by_coin later true one =
            ap (λ (s : State). with_rows coins (rows_from (k + 1) randomness) (shot_bits_of s)) (sym (still some k fixed)) ∙ later (coin_flipped k some) (below-flipped k some one is)
        by_coin later false zero' = later some (below-same k some zero' is)
    sum-from k (true ∷ randomness) some are is = by_coin (λ next. sum-from (k + 1) randomness next (randomness-rest k true randomness are)) (coins k) refl
      where
        by_coin : ((next : ℕ → Bool) → IsBelow (k + 1) next → with_rows coins (rows_from (k + 1) randomness) (shot_bits_of (run_of n next items)) ≡ shot_bits_of (run_of n coins items))
            → (b : Bool) → coins k ≡ b
            → with_rows coins (rows_from (k + 1) randomness) (if coins k then inverted (shot_bits_of (run_of n some items)) (flips_of n items zero_coins k) else shot_bits_of (run_of n some items))
            ≡ shot_bits_of (run_of n coins items)
        by_coin later true one =
            ap (λ b. with_rows coins (rows_from (k + 1) randomness) (if b then inverted (shot_bits_of (run_of n some items)) (flips_of n items zero_coins k) else shot_bits_of (run_of n some items))) one
            ∙ ap (with_rows coins (rows_from (k + 1) randomness)) (row-inverts some k)
            ∙ later (coin_flipped k some) (below-flipped k some one is)
        by_coin later false zero' =
            ap (λ b. with_rows coins (rows_from (k + 1) randomness) (if b then inverted (shot_bits_of (run_of n some items)) (flips_of n items zero_coins k) else shot_bits_of (run_of n some items))) zero'
            ∙ later some (below-same k some zero' is)

  pub coin-table : IsCoinTable n items (table_of n items)
  coin-table = record {
    listed = λ coins. λ i. map (rows coins i) (one_positions (sym (random-zero n items fits coins) i));
    others = λ coins t all. still coins t (absent 0 (run_of n zero_coins items).free t (subst (λ m. All (λ (r : CoinRow). r.coin ≡ m → ⊥) (table_of n items)) (omega arith) all));
    adds = λ coins.
        sym (sum-from coins 0 (run_of n zero_coins items).free zero_coins (λ i. ap (λ m. get_or (run_of n zero_coins items).free m false) (omega arith))
        (record { below = λ s lt. absurd (omega (arith, lt)); rest = λ s le. refl }));
  }
    where
      rows : (coins : ℕ → Bool) → row_by n items zero_coins ≡ row_by n items coins
      rows coins = λ i t. record { coin = t; flips = row-alike coins t i }

pub coins-have-rows : CoinsHaveRows
coins-have-rows n items fits = coin-table n items fits

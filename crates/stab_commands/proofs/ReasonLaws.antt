-- Laws of reasons: numbers with a property, the coins that flip a bit by their positions, and which bits no coin flips.
use Rattle.stab_commands.proofs.Names.{◌≡◌, refl, sym, ap, ap₂, ◌∙◌, ℕ, zero, suc, ◌+◌, ◌<◌, ◌==◌, Bool, true, false, List, [], ◌∷◌, ◌++◌, append_assoc, length, drop, map, get_or, codes, if◌then◌else◌, arith, flat_map, nat_tests, ◌⊕◌, Items, Path, path_text, qubits_of, unroll, observables_of, detectors_of, length-flipped, run_of, one_positions, bit, numbers_where, IsDeterministic, ShotBits, shot_bits_of, inverted, coin_flipped, flips_of, zero_coins, AreCoinRuns, deciding_coins, CoinRow, row_by, with_rows, IsCoinTable, table_of, CoinRuns, Bit, bit_of, path_of_bit, checked_bits, deciders, bit_name, coordinates_at, decider_text, reason_line, reason_text, DeterministicHasNoDecider, coin_at, decides}
use Rattle.stab_frames.specs.Flips.{flipped}
use Rattle.stab_commands.proofs.CountLaws.{numbers_of_runs}

-- numbers with a property

-- those of this many and of the next
pub where-next : (f : ℕ → Bool) (i k : ℕ) → numbers_where f i (suc k) ≡ numbers_where f i k ++ (if f (i + k) then (i + k) ∷ [] else [])
where-next f i zero = ap (λ j. if f j then j ∷ [] else []) {x = i} {y = i + 0} (omega arith)
where-next f i (suc k) = by_test (f i) (where-next f (i + 1) k ∙ ap (λ j. numbers_where f (i + 1) k ++ (if f j then j ∷ [] else [])) {x = i + 1 + k} {y = i + suc k} (omega arith))
  where
    by_test : (b : Bool) → numbers_where f (i + 1) (suc k) ≡ numbers_where f (i + 1) k ++ (if f (i + suc k) then (i + suc k) ∷ [] else [])
        → (if b then i ∷ numbers_where f (i + 1) (suc k) else numbers_where f (i + 1) (suc k))
        ≡ (if b then i ∷ numbers_where f (i + 1) k else numbers_where f (i + 1) k) ++ (if f (i + suc k) then (i + suc k) ∷ [] else [])
    by_test true later = ap (λ l. i ∷ l) later
    by_test false later = later

-- those of this many, and of this many after them
pub where-join : (f : ℕ → Bool) (i k m : ℕ) → numbers_where f i (k + m) ≡ numbers_where f i k ++ numbers_where f (i + k) m
where-join f i zero m = ap (numbers_where f i) {x = 0 + m} {y = m} (omega arith) ∙ ap (λ j. numbers_where f j m) {x = i} {y = i + 0} (omega arith)
where-join f i (suc k) m = ap (numbers_where f i) {x = suc k + m} {y = suc (k + m)} (omega arith) ∙ by_test (f i) (where-join f (i + 1) k m ∙ ap (λ j. numbers_where f (i + 1) k ++ numbers_where f j m) {x = i + 1 + k} {y = i + suc k} (omega arith))
  where
    by_test : (b : Bool) → numbers_where f (i + 1) (k + m) ≡ numbers_where f (i + 1) k ++ numbers_where f (i + suc k) m
        → (if b then i ∷ numbers_where f (i + 1) (k + m) else numbers_where f (i + 1) (k + m))
        ≡ (if b then i ∷ numbers_where f (i + 1) k else numbers_where f (i + 1) k) ++ numbers_where f (i + suc k) m
    by_test true later = ap (λ l. i ∷ l) later
    by_test false later = later

-- those after the first
where-shift : (f : ℕ → Bool) (i k : ℕ) → numbers_where f (suc i) k ≡ map suc (numbers_where (λ j. f (suc j)) i k)
where-shift f i zero = refl
where-shift f i (suc k) = by_test (f (suc i)) (ap (λ j. numbers_where f j k) {x = suc i + 1} {y = suc (i + 1)} (omega arith) ∙ where-shift f (i + 1) k)
  where
    by_test : (b : Bool) → numbers_where f (suc i + 1) k ≡ map suc (numbers_where (λ j. f (suc j)) (i + 1) k)
        → (if b then suc i ∷ numbers_where f (suc i + 1) k else numbers_where f (suc i + 1) k)
        ≡ map suc (if b then i ∷ numbers_where (λ j. f (suc j)) (i + 1) k else numbers_where (λ j. f (suc j)) (i + 1) k)
    by_test true later = ap (λ l. suc i ∷ l) later
    by_test false later = later

-- the coins that flip a bit

module _ (n : ℕ) (items : Items) (i : ℕ) where
  abbrev flips_bit : List ℕ → ℕ → Bool
  flips_bit coins k = get_or (checked_bits (flips_of n items zero_coins (get_or coins k 0))) i false

  following-first : (x : ℕ) (xs positions : List ℕ) → map (λ k. get_or (x ∷ xs) k 0) (map suc positions) ≡ map (λ k. get_or xs k 0) positions
  following-first x xs [] = refl
  following-first x xs (p ∷ positions) = ap (λ l. get_or xs p 0 ∷ l) (following-first x xs positions)

  -- by the positions at which they are
  pub deciders_by_positions : (coins : List ℕ) → deciders i (map (row_by n items zero_coins) coins) ≡ map (λ k. get_or coins k 0) (numbers_where (flips_bit coins) 0 (length coins))
  deciders_by_positions [] = refl
  deciders_by_positions (x ∷ xs) =
      by_test (get_or (checked_bits (flips_of n items zero_coins x)) i false)
      (deciders_by_positions xs ∙ sym (following-first x xs (numbers_where (flips_bit xs) 0 (length xs))) ∙ ap (map (λ k. get_or (x ∷ xs) k 0)) (sym (where-shift (flips_bit (x ∷ xs)) 0 (length xs))))
    where
      by_test : (b : Bool) → deciders i (map (row_by n items zero_coins) xs) ≡ map (λ k. get_or (x ∷ xs) k 0) (numbers_where (flips_bit (x ∷ xs)) 1 (length xs))
          → (if b then x ∷ deciders i (map (row_by n items zero_coins) xs) else deciders i (map (row_by n items zero_coins) xs))
          ≡ map (λ k. get_or (x ∷ xs) k 0) (if b then 0 ∷ numbers_where (flips_bit (x ∷ xs)) 1 (length xs) else numbers_where (flips_bit (x ∷ xs)) 1 (length xs))
      by_test true later = ap (λ l. x ∷ l) later
      by_test false later = later

-- the front of a bit's line, by the path of its item
abbrev pub line_front : Items → Bit → Path → List ℕ
line_front items b path = (bit_name b ++ (codes " " ++ path_text path)) ++ coordinates_at items path

-- the line of a bit that some coin flips
pub reason_some : (items : Items) (b : Bit) (coins : List ℕ) → (coins ≡ [] → ⊥)
    → reason_line items b coins ≡ line_front items b (path_of_bit items b) ++ (flat_map (decider_text items) coins ++ codes "\n")
reason_some items b [] some = absurd (some refl)
reason_some items b (t ∷ ts) some =
    let path = codes " " ++ path_text (path_of_bit items b) in
    let coordinates = coordinates_at items (path_of_bit items b) in
    let rest = flat_map (decider_text items) (t ∷ ts) ++ codes "\n" in
    sym (append_assoc (bit_name b ++ path) coordinates rest ∙ append_assoc (bit_name b) path (coordinates ++ rest))

-- a bit that no coin flips

gone : (a : Bool) → a ⊕ a ≡ false
gone a = grind arith

unflipped-bit : (a b : Bool) → b ≡ false → b ⊕ a ≡ a
unflipped-bit a b e = grind arith

-- a bit of two inverted lists
get-flipped : (a b c d : List Bool) (i : ℕ) → length a ≡ length b → length c ≡ length d → get_or (flipped a b ++ flipped c d) i false ≡ get_or (b ++ d) i false ⊕ get_or (a ++ c) i false
get-flipped [] [] [] [] zero ab cd = refl
get-flipped [] [] [] [] (suc i) ab cd = refl
get-flipped [] [] [] (y ∷ d) i ab cd = absurd (omega (arith, cd))
get-flipped [] [] (x ∷ c) [] i ab cd = absurd (omega (arith, cd))
get-flipped [] [] (x ∷ c) (y ∷ d) zero ab cd = refl
get-flipped [] [] (x ∷ c) (y ∷ d) (suc i) ab cd = get-flipped [] [] c d i refl (omega (arith, cd))
get-flipped [] (y ∷ b) c d i ab cd = absurd (omega (arith, ab))
get-flipped (x ∷ a) [] c d i ab cd = absurd (omega (arith, ab))
get-flipped (x ∷ a) (y ∷ b) c d zero ab cd = refl
get-flipped (x ∷ a) (y ∷ b) c d (suc i) ab cd = get-flipped a b c d i (omega (arith, ab)) cd

module _ (n : ℕ) (items : Items) (i : ℕ) where
  bit_of_run : (coins : ℕ → Bool) → get_or (checked_bits (shot_bits_of (run_of n coins items))) i false ≡ bit n (observables_of items) coins (unroll items) i
  unfolding run_of
  bit_of_run coins = refl

  detectors_alike : (coins others : ℕ → Bool) → length (run_of n coins items).detectors ≡ length (run_of n others items).detectors
  detectors_alike coins others = (numbers_of_runs n coins items).detectors ∙ sym (numbers_of_runs n others items).detectors

  observables_alike : (coins others : ℕ → Bool) → length (run_of n coins items).observables ≡ length (run_of n others items).observables
  observables_alike coins others = (numbers_of_runs n coins items).observables ∙ sym (numbers_of_runs n others items).observables

  -- a coin flips no bit that is the same for all random bits
  deterministic-unflipped : IsDeterministic n items i → (coins : ℕ → Bool) (t : ℕ) → get_or (checked_bits (flips_of n items coins t)) i false ≡ false
  deterministic-unflipped deterministic coins t =
      let one = run_of n (coin_flipped t coins) items in
      let other = run_of n coins items in
      get-flipped one.detectors other.detectors one.observables other.observables i (detectors_alike (coin_flipped t coins) coins) (observables_alike (coin_flipped t coins) coins)
      ∙ ap₂ (λ a b. a ⊕ b) (bit_of_run coins) (bit_of_run (coin_flipped t coins) ∙ deterministic coins (coin_flipped t coins))
      ∙ gone (bit n (observables_of items) coins (unroll items) i)

  none-decide : IsDeterministic n items i → (coins : List ℕ) → deciders i (map (row_by n items zero_coins) coins) ≡ []
  none-decide deterministic [] = refl
  none-decide deterministic (t ∷ ts) =
      ap (λ b. if b then t ∷ deciders i (map (row_by n items zero_coins) ts) else deciders i (map (row_by n items zero_coins) ts)) (deterministic-unflipped deterministic zero_coins t)
      ∙ none-decide deterministic ts

  pub deterministic-has-none : (rows : List CoinRow) → IsCoinTable n items rows → IsDeterministic n items i → deciders i rows ≡ []
  deterministic-has-none rows table deterministic = ap (deciders i) (table.listed zero_coins) ∙ none-decide deterministic (one_positions (run_of n zero_coins items).free)

  -- a run whose coins flip it nowhere

  record Counted (bits : ShotBits) : Type 0 where
    pub detectors : length bits.detectors ≡ length (run_of n zero_coins items).detectors
    pub observables : length bits.observables ≡ length (run_of n zero_coins items).observables

  first-unflipped : (b : Bool) (t : ℕ) (ts : List ℕ) → (if b then t ∷ ts else ts) ≡ [] → (b ≡ false) × (ts ≡ [])
  first-unflipped true t ts e = absurd (cc)
  first-unflipped false t ts e = (refl, e)

  inverted-counted : (bits flips : ShotBits) → Counted bits → Counted (inverted bits flips)
  inverted-counted bits flips counted = record {
    detectors = length-flipped bits.detectors flips.detectors ∙ counted.detectors;
    observables = length-flipped bits.observables flips.observables ∙ counted.observables;
  }

  run-counted : (coins : ℕ → Bool) → Counted (shot_bits_of (run_of n coins items))
  run-counted coins = record { detectors = detectors_alike coins zero_coins; observables = observables_alike coins zero_coins }

  flips-counted : (t : ℕ) → Counted (flips_of n items zero_coins t)
  flips-counted t = inverted-counted (shot_bits_of (run_of n (coin_flipped t zero_coins) items)) (shot_bits_of (run_of n zero_coins items)) (run-counted (coin_flipped t zero_coins))

  preserved : (coins : ℕ → Bool) (ts : List ℕ) (bits : ShotBits) → Counted bits → deciders i (map (row_by n items zero_coins) ts) ≡ []
      → get_or (checked_bits (with_rows coins (map (row_by n items zero_coins) ts) bits)) i false ≡ get_or (checked_bits bits) i false
  preserved coins [] bits counted none = refl
  preserved coins (t ∷ ts) bits counted none = by_coin (λ more are. preserved coins ts more are split.1) (coins t)
    where
      flips : ShotBits
      flips = flips_of n items zero_coins t

      split : (get_or (checked_bits (flips_of n items zero_coins t)) i false ≡ false) × (deciders i (map (row_by n items zero_coins) ts) ≡ [])
      split = first-unflipped (get_or (checked_bits (flips_of n items zero_coins t)) i false) t (deciders i (map (row_by n items zero_coins) ts)) none

      by_coin : ((more : ShotBits) → Counted more → get_or (checked_bits (with_rows coins (map (row_by n items zero_coins) ts) more)) i false ≡ get_or (checked_bits more) i false)
          → (b : Bool) → get_or (checked_bits (with_rows coins (map (row_by n items zero_coins) ts) (if b then inverted bits flips else bits))) i false ≡ get_or (checked_bits bits) i false
      by_coin later true =
          later (inverted bits flips) (inverted-counted bits flips counted)
          ∙ get-flipped bits.detectors flips.detectors bits.observables flips.observables i
          (counted.detectors ∙ sym (flips-counted t).detectors) (counted.observables ∙ sym (flips-counted t).observables)
          ∙ unflipped-bit (get_or (checked_bits bits) i false) (get_or (checked_bits flips) i false) split.0
      by_coin later false = later bits counted

  pub none-has-deterministic : (rows : List CoinRow) → IsCoinTable n items rows → deciders i rows ≡ [] → IsDeterministic n items i
  none-has-deterministic rows table none = λ coins others. sym (bit_of_run others) ∙ as_zero others ∙ sym (as_zero coins) ∙ bit_of_run coins
    where
      all : List ℕ
      all = one_positions (run_of n zero_coins items).free

      as_zero : (coins : ℕ → Bool) → get_or (checked_bits (shot_bits_of (run_of n coins items))) i false ≡ get_or (checked_bits (shot_bits_of (run_of n zero_coins items))) i false
      as_zero coins =
          ap (λ bits. get_or (checked_bits bits) i false) (table.adds coins)
          ∙ ap (λ l. get_or (checked_bits (with_rows coins l (shot_bits_of (run_of n zero_coins items)))) i false) (table.listed zero_coins)
          ∙ preserved coins all (shot_bits_of (run_of n zero_coins items)) (run-counted zero_coins) (ap (deciders i) (sym (table.listed zero_coins)) ∙ none)

pub deterministic-has-no-decider : DeterministicHasNoDecider
deterministic-has-no-decider items rows i table within = (deterministic-has-none (qubits_of items) items i rows table, none-has-deterministic (qubits_of items) items i rows table)

-- the first of the coins that flip a bit

mapped_first : (h : ℕ → ℕ) (xs : List ℕ) → 0 < length xs → map h xs ≡ h (get_or xs 0 0) ∷ map h (drop 1 xs)
mapped_first h [] some = absurd (omega arith)
mapped_first h (x ∷ xs) some = refl

-- whether there are positions

pub no_positions : (xs : List ℕ) → true ≡ (length xs == 0) → xs ≡ []
no_positions [] e = refl
no_positions (x ∷ xs) e = absurd (omega (arith, zero_length (length (x ∷ xs)) e))
  where
    zero_length : (n : ℕ) → true ≡ (n == 0) → n ≡ 0
    zero_length n h = grind (arith, nat_tests, h)

pub some_positions : (xs : List ℕ) → false ≡ (length xs == 0) → xs ≡ [] → ⊥
some_positions xs e none = not_none (length xs) e (ap length none)
  where
    not_none : (n : ℕ) → false ≡ (n == 0) → n ≡ 0 → ⊥
    not_none n h z = grind (arith, nat_tests, h, z)

-- the line of the bit of a number, by the positions of the coins that flip it

flat-mapped : (text : ℕ → List ℕ) (h : ℕ → ℕ) (xs : List ℕ) → flat_map text (map h xs) ≡ flat_map (λ x. text (h x)) xs
flat-mapped text h [] = refl
flat-mapped text h (x ∷ xs) = ap (λ l. text (h x) ++ l) (flat-mapped text h xs)

none-mapped : (h : ℕ → ℕ) (xs : List ℕ) → map h xs ≡ [] → xs ≡ []
none-mapped h [] e = refl
none-mapped h (x ∷ xs) e = absurd (cc)

module _ (items : Items) (r : CoinRuns) (are : AreCoinRuns (qubits_of items) items r) (i : ℕ) (positions : List ℕ) (found : numbers_where (decides items i) 0 (length r.numbers.items) ≡ positions) where
  pub found_deciders : deciders i (table_of (qubits_of items) items) ≡ map (coin_at items) positions
  found_deciders =
      deciders_by_positions (qubits_of items) items i (deciding_coins (qubits_of items) items)
      ∙ ap (λ (l : List ℕ). map (coin_at items) (numbers_where (decides items i) 0 (length l))) (sym are.numbers)
      ∙ ap (map (coin_at items)) found

  -- nothing is written of a bit that no coin flips
  pub reason_none : positions ≡ [] → reason_text items (table_of (qubits_of items) items) i ≡ []
  reason_none none = ap (reason_line items (bit_of (detectors_of (unroll items)) i)) (found_deciders ∙ ap (map (coin_at items)) none)

  -- a bit that some coin flips is not the same for all random bits
  pub is_random : (positions ≡ [] → ⊥) → IsDeterministic (qubits_of items) items i → ⊥
  is_random some deterministic = some (none-mapped (coin_at items) positions (sym found_deciders ∙ deterministic-has-none (qubits_of items) items i (table_of (qubits_of items) items) are.table deterministic))

  -- a bit that is not the same whatever the coins is flipped by some coin
  pub some_found : (IsDeterministic (qubits_of items) items i → ⊥) → 0 < length positions
  some_found random = not_none positions (λ none. random (none-has-deterministic (qubits_of items) items i (table_of (qubits_of items) items) are.table (found_deciders ∙ ap (map (coin_at items)) none)))
    where
      not_none : (xs : List ℕ) → (xs ≡ [] → ⊥) → 0 < length xs
      not_none [] some = absurd (some refl)
      not_none (x ∷ xs) some = omega arith

  -- the first that does
  pub first_found : 0 < length positions → deciders i (table_of (qubits_of items) items) ≡ coin_at items (get_or positions 0 0) ∷ map (coin_at items) (drop 1 positions)
  first_found some = found_deciders ∙ mapped_first (coin_at items) positions some

  -- its line
  pub reason_found : (b : Bit) → b ≡ bit_of (detectors_of (unroll items)) i → (path : Path) → path_of_bit items b ≡ path → (positions ≡ [] → ⊥)
      → line_front items b path ++ (flat_map (λ k. decider_text items (coin_at items k)) positions ++ codes "\n") ≡ reason_text items (table_of (qubits_of items) items) i
  reason_found b is path at some =
      ap (λ p. line_front items b p ++ (flat_map (λ k. decider_text items (coin_at items k)) positions ++ codes "\n")) (sym at)
      ∙ ap (λ l. line_front items b (path_of_bit items b) ++ (l ++ codes "\n")) (sym (flat-mapped (decider_text items) (coin_at items) positions))
      ∙ sym (reason_some items b (map (coin_at items) positions) (λ none. some (none-mapped (coin_at items) positions none)))
      ∙ ap (reason_line items b) (sym found_deciders)
      ∙ ap (λ c. reason_line items c (deciders i (table_of (qubits_of items) items))) is

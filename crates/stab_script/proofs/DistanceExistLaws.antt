-- Laws of distances that exist: whatever distance a script asks for, up to a number of errors, it has an answer.
use Rattle.stab_script.proofs.Names.{◌≡◌, ◌<◌, ◌⊎◌, ◌^◌, ℕ, zero, suc, Bool, true, false, List, [], ◌∷◌, length, get_or, refl, subst, Some, None, inl, inr, arith, All, BadCommand, NotDeterministic, Items, unroll, qubits_of, detectors_of, StepFits, AreDeterministic, IsDeterministic, bits_in, CoinsHaveRows, IsCoinTable, table_of, errors_of, IsErrorTable, CircuitsHaveDistances, IsDistance, Bit, Decider, Random, Distance, deciders, IsFirstDecider, IsFirstRandom, bit_of, path_of_bit, path_of_coin, DeterministicHasNoDecider, IsDistanceText, answer_text, first_random_is, deterministic_before, all_deterministic, reply_text, Held, Answer, IsDistanceAnswer, options_asked, replying, refusing}
use Rattle.stab_jobs.specs.declared.job.ErrorLetters.TheVariants as letters

-- the first bit that is not set
record IsFirstUnset (bits : List Bool) (k : ℕ) : Type 0 where
  inside : k < length bits
  unset : get_or bits k false ≡ false
  set : (i : ℕ) → i < k → get_or bits i false ≡ true

-- each bit is set
abbrev AreSet : List Bool → Type 0
AreSet bits = (i : ℕ) → i < length bits → get_or bits i false ≡ true

first_unset : (bits : List Bool) → ((k : ℕ) × IsFirstUnset bits k) ⊎ AreSet bits
first_unset [] = inr (λ i less. absurd (omega (arith, less)))
first_unset (false ∷ bits) = inl (0, record { inside = omega arith; unset = refl; set = λ i less. absurd (omega (arith, less)) })
first_unset (true ∷ bits) = by_rest (first_unset bits)
  where
    before : (k : ℕ) → ((i : ℕ) → i < k → get_or bits i false ≡ true) → (i : ℕ) → i < suc k → get_or (true ∷ bits) i false ≡ true
    before k front zero less = refl
    before k front (suc i) less = front i (omega (arith, less))

    by_rest : ((k : ℕ) × IsFirstUnset bits k) ⊎ AreSet bits → ((k : ℕ) × IsFirstUnset (true ∷ bits) k) ⊎ AreSet (true ∷ bits)
    by_rest (inl (k, is)) = inl (suc k, record { inside = omega (arith, is.inside); unset = is.unset; set = before k is.set })
    by_rest (inr all) = inr (λ i less. before (length bits) all i less)

-- a bit that is not deterministic has a first coin that decides it
decider_found : CoinsHaveRows → DeterministicHasNoDecider → (items : Items) (number : ℕ) → All (StepFits (qubits_of items)) (unroll items) → number < bits_in items → (IsDeterministic (qubits_of items) items number → ⊥)
    → (d : Decider) × IsFirstDecider items number d
decider_found rows none items number fits within random = by_coins (deciders number (table_of (qubits_of items) items)) refl
  where
    table : IsCoinTable (qubits_of items) items (table_of (qubits_of items) items)
    table = rows (qubits_of items) items fits

    by_coins : (coins : List ℕ) → deciders number (table_of (qubits_of items) items) ≡ coins → (d : Decider) × IsFirstDecider items number d
    by_coins [] is = absurd (random ((none items (table_of (qubits_of items) items) number table within).1 is))
    by_coins (t ∷ ts) is = (
      record { coin = t; path = path_of_coin items t },
      record { table = table; others = ts; first = is; path = refl },
    )

-- a coin decides the first bit that is not deterministic
random_found : CoinsHaveRows → DeterministicHasNoDecider → (items : Items) (deterministic : List Bool) (k : ℕ) → All (StepFits (qubits_of items)) (unroll items) → AreDeterministic (qubits_of items) items deterministic → IsFirstUnset deterministic k → (u : Random) × IsFirstRandom items u
random_found rows none items deterministic k fits are is =
    let n = qubits_of items in
    let b : Bit = bit_of (detectors_of (unroll items)) k in
    let random = first_random_is n items deterministic k are is.inside is.unset in
    let decider = decider_found rows none items k fits (subst (λ m. k < m) are.count is.inside) random in (
      record { bit = b; path = path_of_bit items b; decider = decider.0 },
      record {
        number = k;
        not_deterministic = random;
        first = deterministic_before n items deterministic k are is.inside is.set;
        bit = refl;
        path = refl;
        decider = decider.1;
      },
    )

module _ (rows : CoinsHaveRows) (none : DeterministicHasNoDecider) (distances : CircuitsHaveDistances) where
  -- there is a distance, or a bit that is not deterministic
  distance_found : (everywhere : Bool) (most : ℕ) (items : Items) → All (StepFits (qubits_of items)) (unroll items) → most < 2 ^ 63
      → ((text : List ℕ) × IsDistanceText (options_asked everywhere most) items text) ⊎ ((u : Random) × IsFirstRandom items u)
  distance_found everywhere most items fits few =
      let found = distances (qubits_of items) everywhere letters.All items most fits few in
      by_bits (record { errors = found.0; answer = found.1 }) found.2 found.3 found.4 (first_unset found.0.deterministic)
    where
      by_bits : (d : Distance) → d.errors.errors ≡ errors_of everywhere letters.All items → IsErrorTable (qubits_of items) items d.errors → IsDistance false None (qubits_of items) items d.errors.errors (Some most) d.answer
          → ((k : ℕ) × IsFirstUnset d.errors.deterministic k) ⊎ AreSet d.errors.deterministic → ((text : List ℕ) × IsDistanceText (options_asked everywhere most) items text) ⊎ ((u : Random) × IsFirstRandom items u)
      by_bits d errors table distance (inl (k, first)) = inr (random_found rows none items d.errors.deterministic k fits table.are_deterministic first)
      by_bits d errors table distance (inr all) = inl (
        answer_text (options_asked everywhere most) items d.errors d.answer,
        (d.errors, d.answer, record { are = record { errors = errors; table = table; all_deterministic = λ asked. all_deterministic (qubits_of items) items d.errors.deterministic table.are_deterministic all }; distance = distance }, refl),
      )

  -- so a script has an answer
  pub distance_answered : (counted everywhere : Bool) (most : ℕ) (held : Held) → All (StepFits (qubits_of held.items)) (unroll held.items) → most < 2 ^ 63
      → (a : Answer) × IsDistanceAnswer counted held (options_asked everywhere most) a × (a.held ≡ held)
  distance_answered false everywhere most held fits few = (refusing held BadCommand, refl, refl)
  distance_answered true everywhere most held fits few = by_found (distance_found everywhere most held.items fits few)
    where
      by_found : ((text : List ℕ) × IsDistanceText (options_asked everywhere most) held.items text) ⊎ ((u : Random) × IsFirstRandom held.items u)
          → (a : Answer) × IsDistanceAnswer true held (options_asked everywhere most) a × (a.held ≡ held)
      by_found (inl (text, is)) = (replying held (reply_text true text), inl (text, is, refl), refl)
      by_found (inr (u, is)) = (refusing held NotDeterministic, inr (u, is, refl), refl)

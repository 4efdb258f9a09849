-- Positions of coins: those that the randomness shows, one after another, and the steps that take them.
use Rattle.stab_commands.proofs.Names.{◌≡◌, ℕ, zero, suc, ◌+◌, ◌-◌, ◌<◌, ◌≤◌, ◌==◌, refl, sym, ◌∙◌, ap, ap₂, subst, Bool, true, false, ◌&&◌, nat_lt, List, [], ◌∷◌, ◌++◌, append-nil, append_assoc, length, take, drop, map, get_or, inl, inr, arith, if◌then◌else◌, All, ◌⊎◌, nat_tests, length-map, map-append, length-drop, length-take, take_all, take-nil, get_or-drop, All-nil, All-cons, All-head, All-tail, All-map, Items, Step, one, detector, measured, controlled_step, unroll, observables_of, Steps, Gates, Pairs, Measurements, Detectors, Single, step_shown, steps_shown, lookbacks_of, Axis, ControlledPair, State, start, run_of, origin, coins_of, all_coins_of, run-state, coins-one, one_positions_from, one_positions, parity-false, AreAscending, unit_coin, run-items, coin_flipped, zero_coins, steps_before_coin, step_of_coin, coins_together}
use Rattle.stab_instructions.specs.declared.control.ControlledPair.TheVariants as pair
use Rattle.stab_recording.proofs.RestPropagatedLemmas.{randomness-counted}

-- the positions of 1 bits

pub positions-next : (position : ℕ) (bits : List Bool) (k : ℕ)
    → one_positions_from position (take (suc k) bits) ≡ one_positions_from position (take k bits) ++ (if get_or bits k false then (position + k) ∷ [] else [])
positions-next position [] zero = refl
positions-next position [] (suc k) = refl
positions-next position (false ∷ bits) zero = refl
positions-next position (true ∷ bits) zero = ap (λ m. m ∷ []) (omega arith)
positions-next position (false ∷ bits) (suc k) =
    positions-next (position + 1) bits k
    ∙ ap (λ m. one_positions_from (position + 1) (take k bits) ++ (if get_or bits k false then m ∷ [] else [])) {x = position + 1 + k} {y = position + suc k} (omega arith)
positions-next position (true ∷ bits) (suc k) =
    ap (λ l. position ∷ l)
    (positions-next (position + 1) bits k
    ∙ ap (λ m. one_positions_from (position + 1) (take k bits) ++ (if get_or bits k false then m ∷ [] else [])) {x = position + 1 + k} {y = position + suc k} (omega arith))

positions-from : (position : ℕ) (bits : List Bool) (i : ℕ) → i < length (one_positions_from position bits) → position ≤ get_or (one_positions_from position bits) i 0
positions-from position [] i lt = absurd (omega (arith, lt))
positions-from position (false ∷ bits) i lt = let h = positions-from (position + 1) bits i lt in omega (arith, h)
positions-from position (true ∷ bits) zero lt = omega arith
positions-from position (true ∷ bits) (suc i) lt = let h = positions-from (position + 1) bits i (omega (arith, lt)) in omega (arith, h)

positions-ascend : (position : ℕ) (bits : List Bool) → AreAscending (one_positions_from position bits)
positions-ascend position [] i j lt within = absurd (omega (arith, within))
positions-ascend position (false ∷ bits) i j lt within = positions-ascend (position + 1) bits i j lt within
positions-ascend position (true ∷ bits) i zero lt within = absurd (omega (arith, lt))
positions-ascend position (true ∷ bits) zero (suc j) lt within = let h = positions-from (position + 1) bits j (omega (arith, within)) in omega (arith, h)
positions-ascend position (true ∷ bits) (suc i) (suc j) lt within = positions-ascend (position + 1) bits i j (omega (arith, lt)) (omega (arith, within))

pub ascending : (bits : List Bool) → AreAscending (one_positions bits)
ascending bits = positions-ascend 0 bits

number-drop : (xs : List ℕ) (k i : ℕ) → get_or (drop k xs) i 0 ≡ get_or xs (k + i) 0
number-drop xs zero i = ap (λ m. get_or xs m 0) (omega arith)
number-drop [] (suc k) i = refl
number-drop (x ∷ xs) (suc k) i = number-drop xs k i ∙ ap (λ m. get_or (x ∷ xs) m 0) {x = suc (k + i)} {y = suc k + i} (omega arith)

pub ascending-rest : (numbers : List ℕ) (k : ℕ) → AreAscending numbers → AreAscending (drop k numbers)
ascending-rest numbers k up i j lt within =
    subst (λ x. x)
    (λ r. sym (number-drop numbers k i) r < sym (number-drop numbers k j) r)
    (up (k + i) (k + j) (omega (arith, lt)) (omega (arith, within, length-drop k numbers)))

-- the step that takes a coin

pub step-at : (k : ℕ) (xs : List Step) (x : Step) (rest : List Step) → drop k xs ≡ x ∷ rest → coins_of x ≡ 1 → step_of_coin xs (all_coins_of (take k xs)) ≡ k
step-at zero xs x rest e takes =
    ap (λ ys. step_of_coin ys 0) e
    ∙ ap (λ c. length (if nat_lt 0 c then [] else x ∷ steps_before_coin (0 - c) rest)) takes
step-at (suc k) [] x rest e takes = absurd (cc)
step-at (suc k) (y ∷ ys) x rest e takes =
    let c = coins_of y in
    let r = all_coins_of (take k ys) in
    ap (λ b. length (if b then [] else y ∷ steps_before_coin ((c + r) - c) ys)) (not_less c r)
    ∙ ap (λ m. suc (length (steps_before_coin m ys))) (minus c r)
    ∙ ap suc (step-at k ys x rest e takes)
  where
    not_less : (c r : ℕ) → nat_lt (c + r) c ≡ false
    not_less c r = grind (arith, nat_tests)

    minus : (c r : ℕ) → (c + r) - c ≡ r
    minus c r = omega arith

-- what is gathered of the coins of the first steps
pub record AreGathered (free : List Bool) (xs : List Step) (number coin : ℕ) (numbers steps : List ℕ) : Type 0 where
  pub coin_is : coin ≡ all_coins_of (take number xs)
  pub numbers_are : numbers ≡ one_positions (take coin free)
  pub steps_are : steps ≡ map (step_of_coin xs) (one_positions (take coin free))

coins-more : (k : ℕ) (xs : List Step) (x : Step) (rest : List Step) → drop k xs ≡ x ∷ rest → all_coins_of (take (suc k) xs) ≡ all_coins_of (take k xs) + coins_of x
coins-more zero xs x rest e = ap (λ ys. all_coins_of (take 1 ys)) e ∙ omega arith
coins-more (suc k) [] x rest e = absurd (cc)
coins-more (suc k) (y ∷ ys) x rest e = let h = coins-more k ys x rest e in omega (arith, h)

next : (k : ℕ) → k + 1 ≡ suc k
next k = omega arith

-- the steps after the next

drop-suc : (k : ℕ) (xs : List Step) (x : Step) (rest : List Step) → drop k xs ≡ x ∷ rest → drop (suc k) xs ≡ rest
drop-suc zero [] x rest e = absurd (cc)
drop-suc zero (y ∷ ys) x rest e = ap (drop 1) e
drop-suc (suc k) [] x rest e = absurd (cc)
drop-suc (suc k) (y ∷ ys) x rest e = drop-suc k ys x rest e

drop-next : (k : ℕ) (xs : List Step) (x : Step) (rest : List Step) → drop k xs ≡ x ∷ rest → drop (k + 1) xs ≡ rest
drop-next k xs x rest e = ap (λ m. drop m xs) (next k) ∙ drop-suc k xs x rest e

-- those after a group of steps
pub drop-group : (k : ℕ) (xs ys rest : List Step) → drop k xs ≡ ys ++ rest → drop (k + length ys) xs ≡ rest
drop-group k xs [] rest e = ap (λ m. drop m xs) {x = k + 0} {y = k} (omega arith) ∙ e
drop-group k xs (y ∷ ys) rest e =
    ap (λ m. drop m xs) {x = k + suc (length ys)} {y = k + 1 + length ys} (omega arith)
    ∙ drop-group (k + 1) xs ys rest (drop-next k xs y (ys ++ rest) e)

coins-after : (k : ℕ) (xs ys rest : List Step) → drop k xs ≡ ys ++ rest → all_coins_of (take (k + length ys) xs) ≡ all_coins_of (take k xs) + all_coins_of ys
coins-after k xs [] rest e = ap (λ m. all_coins_of (take m xs)) {x = k + 0} {y = k} (omega arith) ∙ omega arith
coins-after k xs (y ∷ ys) rest e =
    ap (λ m. all_coins_of (take m xs)) {x = k + suc (length ys)} {y = k + 1 + length ys} (omega arith)
    ∙ coins-after (k + 1) xs ys rest (drop-next k xs y (ys ++ rest) e)
    ∙ ap (λ c. c + all_coins_of ys) (ap (λ m. all_coins_of (take m xs)) (next k) ∙ coins-more k xs y (ys ++ rest) e)
    ∙ omega arith

-- how many coins a group takes: each step one, or none any
abbrev pub TakeCoins : List Step → ℕ → Type 0
TakeCoins xs count =
    (All (λ x. coins_of x ≡ 0) xs × (count ≡ 0))
    ⊎ (All (λ x. coins_of x ≡ 1) xs × (count ≡ length xs))

pub together : (steps : Steps) → TakeCoins (steps_shown steps) (coins_together steps)
together (Gates g qubits) = inl (All-map (λ x. coins_of x ≡ 0) (one g) qubits.now (λ k d less. refl), refl)
together (Pairs axis pairs) = inl (All-map (λ x. coins_of x ≡ 0) (controlled_step axis) pairs.now (λ k d less. by-pair axis _), refl)
  where
    by-pair : (axis : Axis) (p : ControlledPair) → coins_of (controlled_step axis p) ≡ 0
    by-pair axis (pair.Qubits p) = refl
    by-pair axis (pair.Record q k) = refl
together (Measurements m targets) = inr (All-map (λ x. coins_of x ≡ 1) (measured m) targets.now (λ k d less. refl), sym (length-map targets.now (measured m)))
together (Detectors ds) = inl (All-map (λ x. coins_of x ≡ 0) detector (lookbacks_of ds) (λ k d less. refl), refl)
together (Single step) = by (coins_of (step_shown step)) refl (coins-one (step_shown step))
  where
    by : (c : ℕ) → coins_of (step_shown step) ≡ c → c ≤ 1 → TakeCoins (step_shown step ∷ []) (coins_of (step_shown step))
    by zero e few = inl (All-cons (λ x. coins_of x ≡ 0) (step_shown step) [] e (All-nil (λ x. coins_of x ≡ 0)), e)
    by (suc zero) e few = inr (All-cons (λ x. coins_of x ≡ 1) (step_shown step) [] e (All-nil (λ x. coins_of x ≡ 1)), e)
    by (suc (suc c)) e few = absurd (omega (arith, few))

coins-none : (ys : List Step) → All (λ x. coins_of x ≡ 0) ys → all_coins_of ys ≡ 0
coins-none [] none = refl
coins-none (y ∷ ys) none = ap₂ (λ a b. a + b) (All-head (λ x. coins_of x ≡ 0) y ys none) (coins-none ys (All-tail (λ x. coins_of x ≡ 0) y ys none))

coins-each : (ys : List Step) → All (λ x. coins_of x ≡ 1) ys → all_coins_of ys ≡ length ys
coins-each [] each = refl
coins-each (y ∷ ys) each =
    let first = All-head (λ x. coins_of x ≡ 1) y ys each in
    let later = coins-each ys (All-tail (λ x. coins_of x ≡ 1) y ys each) in
    omega (arith, first, later)

-- the positions of 1 bits in two parts
in-parts : (c position k : ℕ) (bits : List Bool) → one_positions_from position (take (k + c) bits) ≡ one_positions_from position (take k bits) ++ one_positions_from (position + k) (take c (drop k bits))
in-parts c position zero bits =
    ap (λ m. one_positions_from position (take m bits)) {x = 0 + c} {y = c} (omega arith)
    ∙ ap (λ p. one_positions_from p (take c bits)) {x = position} {y = position + 0} (omega arith)
in-parts c position (suc k) [] =
    ap (λ m. one_positions_from position (take m [])) {x = suc k + c} {y = suc (k + c)} (omega arith)
    ∙ sym (ap (one_positions_from (position + suc k)) (take-nil c))
in-parts c position (suc k) (false ∷ bits) =
    ap (λ m. one_positions_from position (take m (false ∷ bits))) {x = suc k + c} {y = suc (k + c)} (omega arith)
    ∙ in-parts c (position + 1) k bits
    ∙ ap (λ p. one_positions_from (position + 1) (take k bits) ++ one_positions_from p (take c (drop k bits))) {x = position + 1 + k} {y = position + suc k} (omega arith)
in-parts c position (suc k) (true ∷ bits) =
    ap (λ m. one_positions_from position (take m (true ∷ bits))) {x = suc k + c} {y = suc (k + c)} (omega arith)
    ∙ ap (λ l. position ∷ l)
    (in-parts c (position + 1) k bits
    ∙ ap (λ p. one_positions_from (position + 1) (take k bits) ++ one_positions_from p (take c (drop k bits))) {x = position + 1 + k} {y = position + suc k} (omega arith))

-- no more than one a step
pub few-together : (steps : Steps) → coins_together steps ≤ length (steps_shown steps)
few-together steps = by (together steps)
  where
    by : TakeCoins (steps_shown steps) (coins_together steps) → coins_together steps ≤ length (steps_shown steps)
    by (inl (none, e)) = omega (arith, e)
    by (inr (each, e)) = omega (arith, e)

-- one more of the bits from a position on
pub positions-put : (start before after : List ℕ) (position at k : ℕ) (bits : List Bool) (here : Bool) → before ≡ start ++ one_positions_from position (take k (drop at bits)) → here ≡ get_or bits (at + k) false
    → after ≡ before ++ (if here then (position + k) ∷ [] else []) → after ≡ start ++ one_positions_from position (take (k + 1) (drop at bits))
positions-put start before after position at k bits here is shows puts =
    puts
    ∙ (λ i. is i ++ (if (shows ∙ sym (get_or-drop at bits k false)) i then (position + k) ∷ [] else []))
    ∙ append_assoc start (one_positions_from position (take k (drop at bits))) (if get_or (drop at bits) k false then (position + k) ∷ [] else [])
    ∙ ap (λ l. start ++ l) (sym (positions-next position (drop at bits) k) ∙ ap (λ m. one_positions_from position (take m (drop at bits))) (sym (next k)))

-- the steps of a group that take the coins of 1 bits, if each takes one
steps-taking : (xs ys rest : List Step) (number coin : ℕ) → drop number xs ≡ ys ++ rest → All (λ x. coins_of x ≡ 1) ys → coin ≡ all_coins_of (take number xs)
    → (bits : List Bool) → length bits ≤ length ys → map (step_of_coin xs) (one_positions_from coin bits) ≡ one_positions_from number bits
steps-taking xs ys rest number coin at each is [] few = refl
steps-taking xs [] rest number coin at each is (b ∷ bits) few = absurd (omega (arith, few))
steps-taking xs (y ∷ ys) rest number coin at each is (b ∷ bits) few =
    by b
    (steps-taking xs ys rest (number + 1) (coin + 1) (drop-next number xs y (ys ++ rest) at) (All-tail (λ x. coins_of x ≡ 1) y ys each)
    ((λ i. is i + sym takes i) ∙ sym (coins-more number xs y (ys ++ rest) at) ∙ ap (λ m. all_coins_of (take m xs)) (sym (next number))) bits (omega (arith, few)))
  where
    takes : coins_of y ≡ 1
    takes = All-head (λ x. coins_of x ≡ 1) y ys each

    by : (b : Bool) → map (step_of_coin xs) (one_positions_from (coin + 1) bits) ≡ one_positions_from (number + 1) bits
        → map (step_of_coin xs) (one_positions_from coin (b ∷ bits)) ≡ one_positions_from number (b ∷ bits)
    by false later = later
    by true later = ap₂ (λ k l. k ∷ l) (ap (step_of_coin xs) is ∙ step-at number xs y (ys ++ rest) at takes) later

positions-append : (k c : ℕ) (bits : List Bool) → one_positions (take (k + c) bits) ≡ one_positions (take k bits) ++ one_positions_from k (take c (drop k bits))
positions-append k c bits = in-parts c 0 k bits ∙ ap (λ p. one_positions (take k bits) ++ one_positions_from p (take c (drop k bits))) {x = 0 + k} {y = k} (omega arith)

-- what is gathered after a group of steps
pub gathered-group : (free : List Bool) (xs ys rest : List Step) (number coin count : ℕ) (numbers steps more further : List ℕ) → drop number xs ≡ ys ++ rest → TakeCoins ys count
    → AreGathered free xs number coin numbers steps → more ≡ numbers ++ one_positions_from coin (take count (drop coin free)) → further ≡ steps ++ one_positions_from number (take count (drop coin free))
    → AreGathered free xs (number + length ys) (coin + count) more further
gathered-group free xs ys rest number coin count numbers steps more further at (inl (none, zero')) are puts goes = record {
  coin_is = ap₂ (λ a b. a + b) are.coin_is (zero' ∙ sym (coins-none ys none)) ∙ sym (coins-after number xs ys rest at);
  numbers_are = puts ∙ ap (λ l. l ++ one_positions_from coin (take count (drop coin free))) are.numbers_are ∙ sym (positions-append coin count free);
  steps_are =
      goes
      ∙ ap (λ c. steps ++ one_positions_from number (take c (drop coin free))) zero'
      ∙ append-nil steps
      ∙ are.steps_are
      ∙ ap (λ c. map (step_of_coin xs) (one_positions (take c free))) {x = coin} {y = coin + count} (omega (arith, zero'));
}
gathered-group free xs ys rest number coin count numbers steps more further at (inr (each, all)) are puts goes = record {
  coin_is = ap₂ (λ a b. a + b) are.coin_is (all ∙ sym (coins-each ys each)) ∙ sym (coins-after number xs ys rest at);
  numbers_are = puts ∙ ap (λ l. l ++ one_positions_from coin (take count (drop coin free))) are.numbers_are ∙ sym (positions-append coin count free);
  steps_are =
      goes
      ∙ ap₂ (λ a b. a ++ b) are.steps_are
      (sym (steps-taking xs ys rest number coin at each are.coin_is (take count (drop coin free)) (omega (arith, all, length-take count (drop coin free)))))
      ∙ sym (map-append (step_of_coin xs) (one_positions (take coin free)) (one_positions_from coin (take count (drop coin free))))
      ∙ ap (map (step_of_coin xs)) (sym (positions-append coin count free));
}

-- all are gathered when no step is left
pub gathered-all : (free : List Bool) (xs : List Step) (number coin : ℕ) (numbers steps : List ℕ) → drop number xs ≡ [] → length free ≡ all_coins_of xs
    → AreGathered free xs number coin numbers steps → (numbers ≡ one_positions free) × (steps ≡ map (step_of_coin xs) (one_positions free))
gathered-all free xs number coin numbers steps none' randomness are =
    let long : length xs ≤ number = omega (arith, length-drop number xs, ap length none') in
    let all : take coin free ≡ free = take_all coin free (omega (arith, are.coin_is, randomness, ap all_coins_of (take_all number xs long))) in
    (are.numbers_are ∙ ap one_positions all, are.steps_are ∙ ap (λ l. map (step_of_coin xs) (one_positions l)) all)

-- a coin that decides is one that a step takes

positions-below : (position : ℕ) (bits : List Bool) (i : ℕ) → i < length (one_positions_from position bits) → get_or (one_positions_from position bits) i 0 < position + length bits
positions-below position [] i lt = absurd (omega (arith, lt))
positions-below position (false ∷ bits) i lt = let h = positions-below (position + 1) bits i lt in omega (arith, h)
positions-below position (true ∷ bits) zero lt = omega arith
positions-below position (true ∷ bits) (suc i) lt = let h = positions-below (position + 1) bits i (omega (arith, lt)) in omega (arith, h)

step-within : (t : ℕ) (xs : List Step) → t < all_coins_of xs → step_of_coin xs t < length xs
step-within t [] lt = absurd (omega (arith, lt))
step-within t (x ∷ xs) lt = by_test (nat_lt t (coins_of x)) refl (step-within (t - coins_of x) xs)
  where
    by_test : (b : Bool) → nat_lt t (coins_of x) ≡ b → (t - coins_of x < all_coins_of xs → step_of_coin xs (t - coins_of x) < length xs)
        → length (if b then [] else x ∷ steps_before_coin (t - coins_of x) xs) < suc (length xs)
    by_test true e later = omega arith
    by_test false e later = let h = later (rest e) in omega (arith, h)
      where
        rest : nat_lt t (coins_of x) ≡ false → t - coins_of x < all_coins_of xs
        rest test = grind (arith, nat_tests, lt, test)

pub free-step-within : (free : List Bool) (xs : List Step) (i : ℕ) → length free ≡ all_coins_of xs → i < length (one_positions free)
    → step_of_coin xs (get_or (one_positions free) i 0) < length xs
free-step-within free xs i randomness lt = step-within (get_or (one_positions free) i 0) xs (omega (arith, randomness, positions-below 0 free i lt))

-- a run has a flag for each coin that its steps take

pub randomness-of-run : (n : ℕ) (coins : ℕ → Bool) (items : Items) → length (run_of n coins items).free ≡ all_coins_of (unroll items)
randomness-of-run n coins items =
    ap (λ (s : State). length s.free)
    (sym (run-items n coins items (unroll items) (observables_of items) refl refl) ∙ run-state n coins (unroll items) (start (observables_of items)))
    ∙ randomness-counted n coins (unroll items) origin

-- the coin that is 1 in a lane
pub unit-flipped : (numbers : List ℕ) (first l s : ℕ) → first + l < length numbers
    → unit_coin (drop first numbers) l s ≡ coin_flipped (get_or numbers (first + l) 0) zero_coins s
unit-flipped numbers first l s within =
    (λ i. is_less i && ((number-drop numbers first l i) == s))
    ∙ either (get_or numbers (first + l) 0) s
    ∙ sym (parity-false (s == get_or numbers (first + l) 0))
  where
    long : length (drop first numbers) ≡ length numbers - first
    long = length-drop first numbers

    is_less : nat_lt l (length (drop first numbers)) ≡ true
    is_less = grind (arith, nat_tests, long, within)

    either : (a b : ℕ) → (a == b) ≡ (b == a)
    either a b = grind (arith, nat_tests)

-- Goes over: a frame over steps one after another, with what it has to know of their measurements.
use Rattle.stab_frames.proofs.Names.{◌≡◌, ℕ, ◌+◌, ◌<◌, ◌≤◌, refl, sym, ◌∙◌, ap, subst, Bool, true, false, ◌&&◌, List, [], ◌∷◌, ◌++◌, length, take, map, get_or, All, arith, map_more, get_or-map, length-map, length-take-le, take-length, Letter, single, strings_anticommute, Gate, image, Axis, ControlledPair, Factor, MeasureTarget, Measurement, letter_of, Step, one, controlled, collapse, product, detector, controlled_step, measured, observable, looked_up, parity, string_of, flip_of, coins_of, all_coins_of, nothing, joined, StepFits, coins-measured, joined-nothing, coins-append, Frame, plus, times_where, RunPivots, pivots_of, frame_over, letters_after, flips_given, pivot_at, PropagationState, frame_at, IsPlaced, IsDrawn, AreDrawn, StepsWith, one_flipped, IsStepDetermined, AreDetermined, IsPropagated, GoesOver, GoesWithoutCoins, Goes}
use Rattle.stab_instructions.specs.declared.control.ControlledPair.TheVariants as pair
use Rattle.stab_frames.proofs.PropagatedLemmas.{over-none, over-step, over-append, determined-append}
use Rattle.stab_frames.proofs.MeasuredPropagatedLemmas.{determined-unmeasured, determined-measured, passes-collapse, passes-product}

-- over none, one step, and steps one after another

none : (k : ℕ) → k + 0 ≡ k
none k = omega arith

more : (a b c : ℕ) → (a + b) + c ≡ a + (b + c)
more a b c = omega arith

drawn-front : (free : List Bool) (draw : ℕ → Bool) (changes : ℕ → Bool) (xs ys : List Step) (coin : ℕ) → AreDrawn free draw changes (xs ++ ys) coin
    → AreDrawn free draw changes xs coin
drawn-front free draw changes [] ys coin drawn = tt
drawn-front free draw changes (x ∷ xs) ys coin drawn = (drawn.0, drawn-front free draw changes xs ys (coin + coins_of x) drawn.1)

drawn-rest : (free : List Bool) (draw : ℕ → Bool) (changes : ℕ → Bool) (xs ys : List Step) (coin : ℕ) → AreDrawn free draw changes (xs ++ ys) coin
    → AreDrawn free draw changes ys (coin + all_coins_of xs)
drawn-rest free draw changes [] ys coin drawn = subst (AreDrawn free draw changes ys) (sym (none coin)) drawn
drawn-rest free draw changes (x ∷ xs) ys coin drawn =
    subst (AreDrawn free draw changes ys) (more coin (coins_of x) (all_coins_of xs)) (drawn-rest free draw changes xs ys (coin + coins_of x) drawn.1)

module _ (n : ℕ) (strings : List (List Letter)) (free : List Bool) (draw : ℕ → Bool) where
  pub goes-none : (w : PropagationState) → IsPlaced free w → length w.letters ≡ n → GoesOver n strings free draw [] w w
  goes-none w placed size = record {
    over = λ changes drawn. over-none n (pivots_of (pivot_at strings free) changes) w;
    determined = λ changes drawn base. tt;
    coin = sym (none w.coin);
    placed = placed;
    size = size;
  }

  pub goes-step : (x : Step) (old new : PropagationState)
      → ((changes : ℕ → Bool) → (0 < coins_of x → IsDrawn free draw changes old.coin) → StepsWith n (pivots_of (pivot_at strings free) changes) x old new)
      → ((changes : ℕ → Bool) → (0 < coins_of x → IsDrawn free draw changes old.coin) → IsStepDetermined n strings free changes x old.coin old.letters)
      → new.coin ≡ old.coin + coins_of x → IsPlaced free new → length new.letters ≡ n → GoesOver n strings free draw (x ∷ []) old new
  goes-step x old new passes determined coin placed size = record {
    over = λ changes drawn. over-step n (pivots_of (pivot_at strings free) changes) x old new (passes changes drawn.0);
    determined = λ changes drawn base. (determined changes drawn.0, tt);
    coin = coin ∙ ap (λ k. old.coin + k) (sym (none (coins_of x)));
    placed = placed;
    size = size;
  }

  pub goes-append : (xs ys : List Step) (a b c : PropagationState) → GoesOver n strings free draw xs a b → GoesOver n strings free draw ys b c
      → GoesOver n strings free draw (xs ++ ys) a c
  goes-append xs ys a b c first then = record {
    over = λ changes drawn. over-append n (pivots_of (pivot_at strings free) changes) xs ys a b c
        (first.over changes (drawn-front free draw changes xs ys a.coin drawn)) (then.over changes (there changes drawn));
    determined = λ changes drawn base.
        let front = drawn-front free draw changes xs ys a.coin drawn in
        determined-append n strings free changes xs ys a.coin (frame_at base a) (first.determined changes front base)
        (subst (λ k. AreDetermined n strings free changes ys k (frame_over n (pivots_of (pivot_at strings free) changes) xs a.coin (frame_at base a))) first.coin
        (subst (λ (f : Frame). AreDetermined n strings free changes ys b.coin f) ((first.over changes front).frame base) (then.determined changes (there changes drawn) base)));
    coin = then.coin ∙ ap (λ k. k + all_coins_of ys) first.coin ∙ more a.coin (all_coins_of xs) (all_coins_of ys) ∙ ap (λ k. a.coin + k) (sym (coins-append xs ys));
    placed = then.placed;
    size = then.size;
  }
    where
      there : (changes : ℕ → Bool) → AreDrawn free draw changes (xs ++ ys) a.coin → AreDrawn free draw changes ys b.coin
      there changes drawn = subst (AreDrawn free draw changes ys) (sym first.coin) (drawn-rest free draw changes xs ys a.coin drawn)

  -- over the steps of targets, one more of them, and all

  pub goes-further : {X : Type 0} (f : X → Step) (xs : List X) (i : ℕ) (d : X) (old now new : PropagationState) → i < length xs
      → GoesOver n strings free draw (map f (take i xs)) old now → GoesOver n strings free draw (f (get_or xs i d) ∷ []) now new
      → GoesOver n strings free draw (map f (take (i + 1) xs)) old new
  goes-further f xs i d old now new lt front next =
      subst (λ ys. GoesOver n strings free draw ys old new) (sym (map_more f xs i d lt)) (goes-append (map f (take i xs)) (f (get_or xs i d) ∷ []) old now new front next)

  pub goes-all : {X : Type 0} (f : X → Step) (xs : List X) (i : ℕ) (old new : PropagationState) → i ≡ length xs → GoesOver n strings free draw (map f (take i xs)) old new
      → GoesOver n strings free draw (map f xs) old new
  goes-all f xs i old new e goes = subst (λ ys. GoesOver n strings free draw (map f ys) old new) (ap (λ k. take k xs) e ∙ take-length xs) goes

  -- each measurement of a target has one coin
  pub measured-coin : (how : Measurement) (targets : List MeasureTarget) (i : ℕ) (old now : PropagationState) → GoesOver n strings free draw (map (measured how) (take i targets)) old now
      → i ≤ length targets → now.coin ≡ old.coin + i
  measured-coin how targets i old now goes le =
      goes.coin ∙ ap (λ k. old.coin + k) (coins-measured how (take i targets) ∙ length-take-le i targets le)

  -- over a measured letter and a measured product

  pub goes-collapse : (l : Letter) (q : ℕ) (recorded inverted resets distinct flip : Bool) (old mid reset new : PropagationState)
      → strings_anticommute old.letters (single n q l).letters ≡ distinct → IsPropagated strings free draw distinct flip old mid → length mid.letters ≡ n
      → reset ≡ record mid { letters = times_where (resets && flip) (single (length mid.letters) q (flip_of l)).letters mid.letters }
      → new ≡ record reset { flips = joined reset.flips (one_flipped recorded flip) } → length new.letters ≡ n
      → GoesOver n strings free draw (collapse l q recorded inverted resets ∷ []) old new
  goes-collapse l q recorded inverted resets distinct flip old mid reset new ea p size er en new_size =
      goes-step (collapse l q recorded inverted resets) old new
      (λ changes drawn. passes-collapse n (pivots_of (pivot_at strings free) changes) l q recorded inverted resets distinct flip old mid reset new ea
      (p.over changes (drawn (omega arith))) size er en)
      (λ changes drawn. determined-measured n strings free changes (collapse l q recorded inverted resets) (single n q l) old.coin distinct old.letters refl ea
      (p.determined changes (drawn (omega arith))))
      (ap (λ (w : PropagationState). w.coin) en ∙ ap (λ (w : PropagationState). w.coin) er ∙ p.coin)
      (subst (IsPlaced free) (sym en) (subst (IsPlaced free) (sym er) p.placed))
      new_size

  pub goes-product : (factors : List Factor) (inverted distinct flip : Bool) (old mid new : PropagationState)
      → strings_anticommute old.letters (string_of n factors).letters ≡ distinct → IsPropagated strings free draw distinct flip old mid
      → new ≡ record mid { flips = joined mid.flips (one_flipped true flip) } → length new.letters ≡ n
      → GoesOver n strings free draw (product factors inverted ∷ []) old new
  goes-product factors inverted distinct flip old mid new ea p en size =
      goes-step (product factors inverted) old new
      (λ changes drawn. passes-product n (pivots_of (pivot_at strings free) changes) factors inverted distinct flip old mid new ea (p.over changes (drawn (omega arith))) en)
      (λ changes drawn. determined-measured n strings free changes (product factors inverted) (string_of n factors) old.coin distinct old.letters refl ea
      (p.determined changes (drawn (omega arith))))
      (ap (λ (w : PropagationState). w.coin) en ∙ p.coin)
      (subst (IsPlaced free) (sym en) p.placed)
      size

  -- over a step that measures nothing
  goes-unmeasured : (x : Step) (old new : PropagationState) → coins_of x ≡ 0 → ((pivots : RunPivots) → new.letters ≡ letters_after n pivots x old.coin (frame_at 0 old))
      → ((pivots : RunPivots) → new.flips ≡ joined old.flips (flips_given n pivots x old.coin (frame_at 0 old))) → new.coin ≡ old.coin → IsPlaced free new → length new.letters ≡ n
      → GoesOver n strings free draw (x ∷ []) old new
  goes-unmeasured x old new ec letters flips coin placed size =
      let after : new.coin ≡ old.coin + coins_of x = omega (arith, coin, ec) in
      goes-step x old new (λ changes drawn. record { letters = letters (pivots_of (pivot_at strings free) changes); flips = flips (pivots_of (pivot_at strings free) changes); coin = after })
      (λ changes drawn. determined-unmeasured n strings free changes x old.coin old.letters ec) after placed size

-- on as many qubits, with what is drawn
pub goes-same : (n m : ℕ) (strings : List (List Letter)) (free : List Bool) (draw draws : ℕ → Bool) (xs : List Step) (old new : PropagationState) → m ≡ n → draw ≡ draws
    → GoesOver m strings free draw xs old new → GoesOver n strings free draws xs old new
goes-same n m strings free draw draws xs old new same same_draw goes =
    subst (λ k. GoesOver k strings free draws xs old new) same (subst (λ d. GoesOver m strings free d xs old new) same_draw goes)

-- the step of a target is on the qubits
pub fits-mapped : {X : Type 0} (n m : ℕ) (f : X → Step) (xs : List X) (i : ℕ) (d : X) → All (StepFits n) (map f xs) → i < length xs → m ≡ n
    → StepFits m (f (get_or xs i d))
fits-mapped n m f xs i d fits lt same =
    let within : i < length (map f xs) = omega (arith, length-map xs f, lt) in
    subst (λ k. StepFits k (f (get_or xs i d))) (sym same) (subst (StepFits n) (get_or-map f xs i d (f d) lt) (fits i (f d) within))

-- the measurement of a target
pub goes-measured : (n : ℕ) (strings : List (List Letter)) (free : List Bool) (draw : ℕ → Bool) (how : Measurement) (t u : MeasureTarget) (l : Letter) (q : ℕ)
    (old new : PropagationState) → u ≡ t → l ≡ letter_of how.axis → q ≡ u.qubit → GoesOver n strings free draw (collapse l q true u.inverted how.resets ∷ []) old new
    → GoesOver n strings free draw (measured how t ∷ []) old new
goes-measured n strings free draw how t u l q old new is el eq goes =
    subst (λ x. GoesOver n strings free draw (measured how x ∷ []) old new) is
    (subst (λ r. GoesOver n strings free draw (collapse (letter_of how.axis) r true u.inverted how.resets ∷ []) old new) eq
    (subst (λ k. GoesOver n strings free draw (collapse k q true u.inverted how.resets ∷ []) old new) el goes))

-- a step that measures nothing and flips nothing that it gives
pub no_coins-letters : (n : ℕ) (x : Step) (old new : PropagationState) (letters : List Letter) → new ≡ record old { letters = letters } → length new.letters ≡ n
    → ((pivots : RunPivots) → letters ≡ letters_after n pivots x old.coin (frame_at 0 old)) → ((pivots : RunPivots) → flips_given n pivots x old.coin (frame_at 0 old) ≡ nothing)
    → coins_of x ≡ 0 → GoesWithoutCoins n (x ∷ []) old new
no_coins-letters n x old new letters e size el ef ec = λ strings free draw placed.
    goes-unmeasured n strings free draw x old new ec (λ pivots. ap (λ (w : PropagationState). w.letters) e ∙ el pivots)
    (λ pivots. ap (λ (w : PropagationState). w.flips) e ∙ sym (joined-nothing old.flips) ∙ ap (joined old.flips) (sym (ef pivots)))
    (ap (λ (w : PropagationState). w.coin) e) (subst (IsPlaced free) (sym e) placed) size

pub no_coins-gate : (n : ℕ) (g : Gate) (q r : ℕ) (old new : PropagationState) → q ≡ r → new ≡ record old { letters = (image g q (plus old.letters)).letters }
    → length new.letters ≡ n → GoesWithoutCoins n (one g r ∷ []) old new
no_coins-gate n g q r old new same e size =
    subst (λ k. GoesWithoutCoins n (one g k ∷ []) old new) same
    (no_coins-letters n (one g q) old new (image g q (plus old.letters)).letters e size (λ pivots. refl) (λ pivots. refl) refl)

pub no_coins-controlled : (n : ℕ) (axis : Axis) (p : ControlledPair) (k q : ℕ) (l : Letter) (j r : ℕ) (old new : PropagationState) → p ≡ pair.Record q k → l ≡ letter_of axis → j ≡ k → r ≡ q
    → new ≡ record old { letters = times_where (looked_up old.flips.records j) (single (length old.letters) r l).letters old.letters }
    → length old.letters ≡ n → length new.letters ≡ n → GoesWithoutCoins n (controlled_step axis p ∷ []) old new
no_coins-controlled n axis p k q l j r old new is el ej er e size size_new =
    subst (λ x. GoesWithoutCoins n (controlled_step axis x ∷ []) old new) (sym is)
    (no_coins-letters n (controlled (letter_of axis) k q) old new (times_where (looked_up old.flips.records k) (single n q (letter_of axis)).letters old.letters)
    (e ∙ (λ i. record old { letters = times_where (looked_up old.flips.records (ej i)) (single (size i) (er i) (el i)).letters old.letters }))
    size_new (λ pivots. refl) (λ pivots. refl) refl)

-- a detector, which measures nothing
pub no_coins-detector : (n : ℕ) (ks : List ℕ) (old new : PropagationState) → new ≡ record old { flips = joined old.flips (record nothing { detectors = parity old.flips.records ks ∷ [] }) }
    → length new.letters ≡ n → GoesWithoutCoins n (detector ks ∷ []) old new
no_coins-detector n ks old new e size = λ strings free draw placed.
    goes-unmeasured n strings free draw (detector ks) old new refl (λ pivots. ap (λ (w : PropagationState). w.letters) e) (λ pivots. ap (λ (w : PropagationState). w.flips) e)
    (ap (λ (w : PropagationState). w.coin) e) (subst (IsPlaced free) (sym e) placed) size

-- an addition to an observable, which measures nothing either
pub no_coins-observable : (n j : ℕ) (ks : List ℕ) (old new : PropagationState)
    → new ≡ record old { flips = joined old.flips (record nothing { additions = record { observable = j; bit = parity old.flips.records ks } ∷ [] }) }
    → length new.letters ≡ n → GoesWithoutCoins n (observable j ks ∷ []) old new
no_coins-observable n j ks old new e size = λ strings free draw placed.
    goes-unmeasured n strings free draw (observable j ks) old new refl (λ pivots. ap (λ (w : PropagationState). w.letters) e) (λ pivots. ap (λ (w : PropagationState). w.flips) e)
    (ap (λ (w : PropagationState). w.coin) e) (subst (IsPlaced free) (sym e) placed) size

-- steps that need no strings, one after another

pub no_coins-none : (n : ℕ) (w : PropagationState) → length w.letters ≡ n → GoesWithoutCoins n [] w w
no_coins-none n w size = λ strings free draw placed. goes-none n strings free draw w placed size

pub no_coins-further : {X : Type 0} (n m : ℕ) (f : X → Step) (xs : List X) (i : ℕ) (d : X) (old now new : PropagationState)
    → i < length xs → GoesWithoutCoins n (map f (take i xs)) old now → m ≡ n → GoesWithoutCoins m (f (get_or xs i d) ∷ []) now new → GoesWithoutCoins n (map f (take (i + 1) xs)) old new
no_coins-further n m f xs i d old now new lt front same next = λ strings free draw placed.
    let here = front strings free draw placed in
    goes-further n strings free draw f xs i d old now new lt here
    (subst (λ k. GoesOver k strings free draw (f (get_or xs i d) ∷ []) now new) same (next strings free draw here.placed))

pub no_coins-all : {X : Type 0} (n : ℕ) (f : X → Step) (xs : List X) (i : ℕ) (old new : PropagationState) → i ≡ length xs → GoesWithoutCoins n (map f (take i xs)) old new
    → GoesWithoutCoins n (map f xs) old new
no_coins-all n f xs i old new e goes = λ strings free draw placed. goes-all n strings free draw f xs i old new e (goes strings free draw placed)

-- steps of an instruction, all of them or a single one

pub all-mapped : {X : Type 0} (f : X → Step) (xs : List X) (steps : List Step) → steps ≡ map f xs → map f xs ≡ take (length xs) steps
all-mapped f xs steps is = sym (ap (take (length xs)) is ∙ ap (λ k. take k (map f xs)) (sym (length-map xs f)) ∙ take-length (map f xs))

pub goes-single : (n : ℕ) (strings : List (List Letter)) (free : List Bool) (draw : ℕ → Bool) (x : Step) (steps : List Step) (went : Bool) (k : ℕ) (old new : PropagationState)
    → steps ≡ x ∷ [] → (went ≡ true → k ≡ 1) → (went ≡ false → k ≡ 0) → Goes n strings free draw x old new went → IsPlaced free old → length old.letters ≡ n
    → GoesOver n strings free draw (take k steps) old new
goes-single n strings free draw x steps true k old new is full bare goes placed size =
    subst (λ xs. GoesOver n strings free draw xs old new) (sym (ap (take k) is ∙ ap (λ j. take j (x ∷ [])) (full refl))) (goes.went refl)
goes-single n strings free draw x steps false k old new is full bare goes placed size =
    subst (λ xs. GoesOver n strings free draw xs old new) (sym (ap (take k) is ∙ ap (λ j. take j (x ∷ [])) (bare refl)))
    (subst (λ w. GoesOver n strings free draw [] old w) (sym (goes.same refl)) (goes-none n strings free draw old placed size))

-- All lanes over steps, one by one and one after another, and what they need of the run stays there.
use Rattle.stab_sampler.proofs.Names.{◌≡◌, ℕ, ◌+◌, ◌<◌, ◌≤◌, refl, sym, ◌∙◌, ap, subst, Bool, List, [], ◌∷◌, ◌++◌, append-nil, length, map, map-append, take, get_or, arith, map_more, take_all, ones, Letter, Gate, PairGate, single, image, image_pair, plus, times_where, Step, one, two, controlled, detector, observable, coins_of, coins-append, joined, joined-nothing, letters_after, flips_given, looked_up, parity, lane_bits, lane_letters, lane_output, lane_additions, lane_pivots, frame_of_difference, lane_difference, without_outcomes, RecordedPivots, Frames, Lanes, DiffersAlong, MayPropagateLanes, GoOver}
use Rattle.stab_sampler.proofs.FollowLemmas.{follows-none, follows-append, follows-step}

-- lanes on as many qubits, after as many coins
pub may-still : {W : Type 0} (recorded_pivots : RecordedPivots) (old new : Lanes W) → MayPropagateLanes recorded_pivots old
    → length new.frames.letters.items ≡ length old.frames.letters.items → new.free.items ≡ old.free.items → new.number ≡ old.number → MayPropagateLanes recorded_pivots new
may-still recorded_pivots old new may size free number = record {
  all = may.all;
  counted = number ∙ may.counted ∙ ap (λ bits. ones (take (length bits) recorded_pivots.free.now)) (sym free);
  frames = size ∙ may.frames;
}

module _ {W : Type 0} {at : W → ℕ → Bool} {count : ℕ} {recorded_pivots : RecordedPivots} {coins : ℕ → ℕ → Bool} where
  -- over none, and over steps one after another

  pub go-none : (lanes : Lanes W) → MayPropagateLanes recorded_pivots lanes → GoOver at count recorded_pivots coins [] lanes lanes
  go-none lanes may = record {
    may = may;
    coin = omega arith;
    follow = λ l lt. follows-none recorded_pivots.strings.now.qubits (lane_pivots recorded_pivots (coins l)) (lane_difference at l lanes);
  }

  pub go-append : (xs ys : List Step) (a b c : Lanes W) → GoOver at count recorded_pivots coins xs a b → GoOver at count recorded_pivots coins ys b c
      → GoOver at count recorded_pivots coins (xs ++ ys) a c
  go-append xs ys a b c first then = record {
    may = then.may;
    coin = omega (arith, first.coin, then.coin, coins-append xs ys);
    follow = λ l lt.
        follows-append recorded_pivots.strings.now.qubits (lane_pivots recorded_pivots (coins l)) xs ys (lane_difference at l a) (lane_difference at l b) (lane_difference at l c) (first.follow l lt) (then.follow l lt);
  }

  -- over the targets before a position, and over that at the position; and over all

  pub go-further : {X : Type 0} (step : X → Step) (xs : List X) (i : ℕ) (x : X) (a b c : Lanes W) → i < length xs → x ≡ get_or xs i x
      → GoOver at count recorded_pivots coins (map step (take i xs)) a b → GoOver at count recorded_pivots coins (step x ∷ []) b c
      → GoOver at count recorded_pivots coins (map step (take (i + 1) xs)) a c
  go-further step xs i x a b c lt is first then =
      subst (λ ys. GoOver at count recorded_pivots coins ys a c)
      (sym (map_more step xs i x lt ∙ ap (λ y. map step (take i xs) ++ step y ∷ []) (sym is)))
      (go-append (map step (take i xs)) (step x ∷ []) a b c first then)

  pub go-all : {X : Type 0} (step : X → Step) (xs : List X) (i : ℕ) (a b : Lanes W) → length xs ≤ i → GoOver at count recorded_pivots coins (map step (take i xs)) a b
      → GoOver at count recorded_pivots coins (map step xs) a b
  go-all step xs i a b all is = subst (λ ys. GoOver at count recorded_pivots coins (map step ys) a b) (take_all i xs all) is

  -- over steps, as those which they are
  pub go-as : (xs ys : List Step) (old new : Lanes W) → xs ≡ ys → GoOver at count recorded_pivots coins ys old new → GoOver at count recorded_pivots coins xs old new
  go-as xs ys old new e is = subst (λ zs. GoOver at count recorded_pivots coins zs old new) (sym e) is

  -- over one step, after whose coin lanes may go on
  pub go-step : (x : Step) (old mid new : Lanes W) → MayPropagateLanes recorded_pivots mid → length new.free.items ≡ length old.free.items + coins_of x
      → length new.frames.letters.items ≡ length mid.frames.letters.items → new.free.items ≡ mid.free.items → new.number ≡ mid.number
      → ((l : ℕ) → l < count → DiffersAlong recorded_pivots.strings.now.qubits (lane_pivots recorded_pivots (coins l)) (x ∷ []) (lane_difference at l old) (lane_difference at l new))
      → GoOver at count recorded_pivots coins (x ∷ []) old new
  go-step x old mid new may coin size free number follow = record {
    may = may-still recorded_pivots mid new may size free number;
    coin = omega (arith, coin);
    follow = follow;
  }

  -- over one that has no coin, by what becomes of the letters of each lane, and what it gives
  go-still : (x : Step) (old new : Lanes W) → coins_of x ≡ 0 → MayPropagateLanes recorded_pivots old
      → length new.frames.letters.items ≡ length old.frames.letters.items → new.free.items ≡ old.free.items → new.number ≡ old.number
      → ((l : ℕ) → l < count → lane_letters at l new.frames.letters.items
      ≡ letters_after recorded_pivots.strings.now.qubits (lane_pivots recorded_pivots (coins l)) x (length old.free.items) (frame_of_difference (lane_difference at l old)))
      → ((l : ℕ) → l < count → lane_output at l new ≡ joined (lane_output at l old)
      (without_outcomes (flips_given recorded_pivots.strings.now.qubits (lane_pivots recorded_pivots (coins l)) x (length old.free.items) (frame_of_difference (lane_difference at l old)))))
      → GoOver at count recorded_pivots coins (x ∷ []) old new
  go-still x old new none may size free number letters output =
      let coin : length new.free.items ≡ length old.free.items + coins_of x = omega (arith, none, ap length free) in
      go-step x old old new may coin size free number
      (λ l lt. follows-step recorded_pivots.strings.now.qubits (lane_pivots recorded_pivots (coins l)) (lane_difference at l old) (lane_difference at l new) x (letters l lt) (output l lt) coin)

  -- that changes the frames alone

  module _ (old : Lanes W) (frames : Frames W) (may : MayPropagateLanes recorded_pivots old) (size : length frames.letters.items ≡ length old.frames.letters.items) where
    pub go-one : (g : Gate) (q : ℕ)
        → ((l : ℕ) → l < count → lane_letters at l frames.letters.items ≡ (image g q (plus (lane_letters at l old.frames.letters.items))).letters)
        → GoOver at count recorded_pivots coins (one g q ∷ []) old (record old { frames = frames })
    go-one g q letters = go-still (one g q) old _ refl may size refl refl letters (λ l lt. sym (joined-nothing (lane_output at l old)))

    pub go-two : (g : PairGate) (a b : ℕ)
        → ((l : ℕ) → l < count → lane_letters at l frames.letters.items ≡ (image_pair g a b (plus (lane_letters at l old.frames.letters.items))).letters)
        → GoOver at count recorded_pivots coins (two g a b ∷ []) old (record old { frames = frames })
    go-two g a b letters = go-still (two g a b) old _ refl may size refl refl letters (λ l lt. sym (joined-nothing (lane_output at l old)))

    pub go-controlled : (letter : Letter) (k q : ℕ) (bits : W) (records : List W) → records ≡ old.records.items
        → ((l : ℕ) → l < count → at bits l ≡ looked_up (lane_bits at l records) k)
        → ((l : ℕ) → l < count → lane_letters at l frames.letters.items
        ≡ times_where (at bits l) (single (length old.frames.letters.items) q letter).letters (lane_letters at l old.frames.letters.items))
        → GoOver at count recorded_pivots coins (controlled letter k q ∷ []) old (record old { frames = frames })
    go-controlled letter k q bits records are is letters =
        go-still (controlled letter k q) old _ refl may size refl refl
        (λ l lt. letters l lt ∙ (λ i. times_where ((is l lt ∙ ap (λ r. looked_up (lane_bits at l r) k) are) i) (single (may.frames i) q letter).letters (lane_letters at l old.frames.letters.items)))
        (λ l lt. sym (joined-nothing (lane_output at l old)))

  -- that gives a parity of records

  module _ (ks : List ℕ) (old new : Lanes W) (bits : W) (records : List W) (may : MayPropagateLanes recorded_pivots old) (are : records ≡ old.records.items)
      (is : (l : ℕ) → l < count → at bits l ≡ parity (lane_bits at l records) ks) where
    pub go-detector : new ≡ record old { detectors = new.detectors } → new.detectors.items ≡ old.detectors.items ++ bits ∷ []
        → GoOver at count recorded_pivots coins (detector ks ∷ []) old new
    go-detector alone items =
        go-still (detector ks) old new refl may (ap (λ (w : Lanes W). length w.frames.letters.items) alone) (ap (λ (w : Lanes W). w.free.items) alone) (ap (λ (w : Lanes W). w.number) alone)
        (λ l lt. ap (λ (w : Lanes W). lane_letters at l w.frames.letters.items) alone)
        (λ l lt. ap (lane_output at l) alone ∙ (λ i. record {
          records = sym (append-nil (lane_bits at l old.records.items)) i;
          free = sym (append-nil old.free.items) i;
          outcomes = [];
          detectors = (ap (lane_bits at l) items ∙ map-append (λ w. at w l) old.detectors.items (bits ∷ []) ∙ ap (λ b. lane_bits at l old.detectors.items ++ b ∷ []) (is l lt ∙ ap (λ r. parity (lane_bits at l r) ks) are)) i;
          additions = sym (append-nil (lane_additions at l old.sums.items)) i;
        }))

    pub go-observable : (j : ℕ) → new ≡ record old { sums = new.sums } → new.sums.items ≡ old.sums.items ++ record { observable = j; parity = bits } ∷ []
        → GoOver at count recorded_pivots coins (observable j ks ∷ []) old new
    go-observable j alone items =
        go-still (observable j ks) old new refl may (ap (λ (w : Lanes W). length w.frames.letters.items) alone) (ap (λ (w : Lanes W). w.free.items) alone) (ap (λ (w : Lanes W). w.number) alone)
        (λ l lt. ap (λ (w : Lanes W). lane_letters at l w.frames.letters.items) alone)
        (λ l lt. ap (lane_output at l) alone ∙ (λ i. record {
          records = sym (append-nil (lane_bits at l old.records.items)) i;
          free = sym (append-nil old.free.items) i;
          outcomes = [];
          detectors = sym (append-nil (lane_bits at l old.detectors.items)) i;
          additions = (ap (lane_additions at l) items
              ∙ map-append (λ s. record { observable = s.observable; bit = at s.parity l }) old.sums.items (record { observable = j; parity = bits } ∷ [])
              ∙ ap (λ b. lane_additions at l old.sums.items ++ record { observable = j; bit = b } ∷ []) (is l lt ∙ ap (λ r. parity (lane_bits at l r) ks) are)) i;
        }))

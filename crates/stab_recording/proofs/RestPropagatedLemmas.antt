-- Frames over the rest: a frame propagated over some of the steps, then some more, and the next checkpoint.
use Rattle.stab_recording.proofs.Names.{All-drop, StepFits, PivotsState, ◌≡◌, ◌≢◌, ℕ, suc, ◌+◌, ◌-◌, ◌<◌, ◌≤◌, refl, sym, ◌∙◌, ap, subst, Bool, true, false, List, [], ◌∷◌, ◌++◌, append-nil, length, replicate, take, drop, slice_get, get_or, All, Option, Some, ◌⊎◌, inl, inr, arith, take-add, take-suc, drop-cons, drop-append_seam, take-append-drop, length-take, length-drop, length-append, drop-drop, slice_get_read, All-nil, All-cons, All-get_or, Letter, I, Signed, TableauState, stabilises, IsConjugated, Step, looked_up, ones, Point, RunOutput, all_coins_of, given, next_point, point_after, outputs, outputs-append, coins-steps, coins-append, coins-are, IsMissing, randomness-given, same_coins, frame_over, AreEnough, pivot_at, AreTrue, Stop, Gone, NoString, IsStop, PropagationState, frame_at, IsPlaced, IsGone, PropagatesOver, enough-append, true-rest, over-append, Checkpoint, AreEnoughBy, AreInOrder, IsPropagatedAfter, ArePropagatedCheckpoints, Stabilise, FramesSome, Ending, IsLastDiffering, IsRestFrame}
use Rattle.stab_recording.specs.declared.propagate.Stop.TheVariants.{After}
use Rattle.stab_recording.specs.PassedSteps.{MayPropagate}
use Rattle.stab_recording.proofs.LetterStateLemmas.{conjugated-differs}
use Rattle.stab_recording.proofs.QuietLemmas.{quiet-gone, flips-more}

-- checkpoints in order

order-end : (at end : ℕ) (cs : List Checkpoint) → AreInOrder at end cs → at ≤ end
order-end at end [] order = order
order-end at end (c ∷ more) order = let later = order-end c.step end more order.1 in omega (arith, order.0, later)

pub order-first : (at end j : ℕ) (cs : List Checkpoint) (c : Checkpoint) → c ≡ get_or cs j c → j < length cs → AreInOrder at end (drop j cs)
    → (at ≤ c.step) × (c.step ≤ end) × AreInOrder c.step end (drop (j + 1) cs)
order-first at end j cs c is lt order =
    let here : (at ≤ c.step) × AreInOrder c.step end (drop (suc j) cs) =
    subst (λ d. (at ≤ d.step) × AreInOrder d.step end (drop (suc j) cs)) (sym is) (subst (AreInOrder at end) (drop-cons cs j c lt) order) in
    (here.0, order-end c.step end (drop (suc j) cs) here.1, subst (λ k. AreInOrder c.step end (drop k cs)) {x = suc j} (omega arith) here.1)

pub next-checkpoint : (j k : ℕ) (cs : List Checkpoint) (c : Checkpoint) → k ≡ length (take j cs) → c ≡ get_or cs j c → j < length cs → slice_get cs k ≡ Some c
next-checkpoint j k cs c count is lt = ap (slice_get cs) {y = j} (omega (arith, count, length-take j cs, lt)) ∙ slice_get_read cs (length cs) j c refl lt is

-- checkpoints after a step are past what was passed before
order-following : (from steps at end : ℕ) (cs : List Checkpoint) → from + steps ≤ at → AreInOrder at end cs → All (λ c. steps ≤ c.step - from) cs
order-following from steps at end [] le order = All-nil (λ c. steps ≤ c.step - from)
order-following from steps at end (c ∷ more) le order =
    All-cons (λ d. steps ≤ d.step - from) c more (omega (arith, le, order.0)) (order-following from steps c.step end more (omega (arith, le, order.0)) order.1)

pub following-checkpoint : (from at end j m : ℕ) (left : List Step) (cs : List Checkpoint) (c : Checkpoint) → c ≡ get_or cs j c → j < length cs → from ≤ at
    → m ≤ length (take (c.step - at) left) → AreInOrder at end (drop j cs) → All (λ d. (at - from) + m ≤ d.step - from) (drop j cs)
following-checkpoint from at end j m left cs c is lt le few order =
    subst (All (λ d. (at - from) + m ≤ d.step - from)) (sym (drop-cons cs j c lt))
    (order-following from ((at - from) + m) (get_or cs j c).step end (get_or cs j c ∷ drop (suc j) cs)
    (subst (λ d. from + ((at - from) + m) ≤ d.step) is (omega (arith, le, few, length-take (c.step - at) left, first.0)))
    (omega arith, (subst (AreInOrder at end) (drop-cons cs j c lt) order).1))
  where
    first : (at ≤ c.step) × (c.step ≤ end) × AreInOrder c.step end (drop (j + 1) cs)
    first = order-first at end j cs c is lt order

-- a propagation that is after what it was to pass is there

pub steps-there : (from at m i window : ℕ) (left back : List Step) (c : Checkpoint) (new : PropagationState) (stop : Stop) → left ≡ drop (at - from) back → from ≤ at → at ≤ c.step
    → c.step ≤ from + length back → IsStop i window m (length (take (c.step - at) left)) new stop → stop ≡ After → (at - from) + m ≡ c.step - from
steps-there from at m i window left back c new stop rest le there within stops following =
    omega (arith, le, there, within, all, length-take (c.step - at) left, ap length rest, length-drop (at - from) back)
  where
    all : m ≡ length (take (c.step - at) left)
    all = subst (IsStop i window m (length (take (c.step - at) left)) new) following stops

pub following-determined : (stop : Stop) → stop ≡ After → stop ≢ NoString
following-determined stop following determined = cc

-- the randomness of steps, one bit a coin

pub randomness-counted : (n : ℕ) (coins : ℕ → Bool) (xs : List Step) (a : Point) → length (outputs n coins xs a).free ≡ all_coins_of xs
randomness-counted n coins [] a = refl
randomness-counted n coins (x ∷ xs) a =
    let later = randomness-counted n coins xs (next_point n coins x a) in
    omega (arith, later, randomness-given n coins x a, length-append (given n coins x a).free (outputs n coins xs (next_point n coins x a)).free)

pub rest-randomness : (front rest randomness : List Bool) (coin some later : ℕ) → front ++ rest ≡ drop coin randomness → length front ≡ some → later ≡ coin + some → rest ≡ drop later randomness
rest-randomness front rest randomness coin some later e long at =
    sym (drop-append_seam front rest)
    ∙ (λ i. drop (long i) (e i))
    ∙ drop-drop some coin randomness
    ∙ ap (λ k. drop k randomness) (sym at)

-- pivots that are enough over some steps, and then over some more

enough-more : (n : ℕ) (strings : ℕ → Option (List Letter)) (free : List Bool) (back : List Step) (k m : ℕ) (old now : PropagationState)
    → PropagatesOver n strings (take k back) old now → AreEnoughBy n strings free back k old → AreEnoughBy n strings free (drop k back) m now
    → (coins : ℕ → Bool) (a : Point) (base : ℕ) → a.coin ≡ old.coin → AreTrue n coins strings back a → (outputs n coins back a).free ≡ drop old.coin free
    → AreEnough n coins (same_coins strings) (take (k + m) back) (frame_at base old) a
enough-more n strings free back k m old now over first next coins a base same is randomness =
    subst (λ xs. AreEnough n coins (same_coins strings) xs (frame_at base old) a) (sym (take-add k m back))
    (enough-append n coins (same_coins strings) (take k back) (take m (drop k back)) (frame_at base old) a (first coins a base same is randomness)
    (subst (λ f. AreEnough n coins (same_coins strings) (take m (drop k back)) f there) frame_is
    (next coins there base coin_is
    (true-rest n coins strings (take k back) (drop k back) a (subst (λ ys. AreTrue n coins strings ys a) (sym (take-append-drop k back)) is))
    (rest-randomness (outputs n coins (take k back) a).free (outputs n coins (drop k back) there).free free old.coin (all_coins_of (take k back)) now.coin
    (sym (ap (λ (o : RunOutput). o.free) (outputs-append n coins (take k back) (drop k back) a))
    ∙ ap (λ ys. (outputs n coins ys a).free) (take-append-drop k back)
    ∙ randomness)
    (randomness-counted n coins (take k back) a) over.coin))))
  where
    there : Point
    there = point_after n coins (take k back) a

    frame_is : frame_at base now ≡ frame_over n (same_coins strings) (take k back) a.coin (frame_at base old)
    frame_is = over.frame base ∙ ap (λ c. frame_over n (same_coins strings) (take k back) c (frame_at base old)) (sym same)

    coin_is : (point_after n coins (take k back) a).coin ≡ now.coin
    coin_is = coins-are n coins (take k back) a ∙ ap (λ c. c + all_coins_of (take k back)) same ∙ sym over.coin

module _ (n : ℕ) (strings : List (List Letter)) (free : List Bool) (back : List Step) (from : ℕ) (old : PropagationState) where
  -- conjugated checkpoints

  conjugated-further : (steps later : ℕ) (cs : List Checkpoint) (ts : List TableauState) → steps ≤ later → length ts ≡ length cs
      → ArePropagatedCheckpoints n strings free back from steps old cs ts → ArePropagatedCheckpoints n strings free back from later old cs ts
  conjugated-further steps later [] [] le count are = All-nil (λ c. later ≤ c.step - from)
  conjugated-further steps later (c ∷ cs) [] le count are = absurd (omega (arith, count))
  conjugated-further steps later [] (t ∷ ts) le count are = are
  conjugated-further steps later (c ∷ cs) (t ∷ ts) le count are =
      (omega (arith, le, are.0), are.1, conjugated-further steps later cs ts le (omega (arith, count)) are.2)

  conjugated-with : (steps : ℕ) (cs : List Checkpoint) (ts : List TableauState) (c : Checkpoint) (t : TableauState) → length ts ≡ length cs → c.step - from ≤ steps
      → IsPropagatedAfter n strings free back (c.step - from) old c.tableau t → ArePropagatedCheckpoints n strings free back from steps old cs ts
      → ArePropagatedCheckpoints n strings free back from steps old (cs ++ c ∷ []) (ts ++ t ∷ [])
  conjugated-with steps [] [] c t count le is are = (le, is, All-nil (λ d. steps ≤ d.step - from))
  conjugated-with steps (b ∷ cs) [] c t count le is are = absurd (omega (arith, count))
  conjugated-with steps [] (u ∷ ts) c t count le is are = absurd are
  conjugated-with steps (b ∷ cs) (u ∷ ts) c t count le is are = (are.0, are.1, conjugated-with steps cs ts c t (omega (arith, count)) le is are.2)

  conjugated-before : (steps : ℕ) (cs rest : List Checkpoint) (ts : List TableauState) → length ts ≡ length cs → All (λ c. steps ≤ c.step - from) rest
      → ArePropagatedCheckpoints n strings free back from steps old cs ts → ArePropagatedCheckpoints n strings free back from steps old (cs ++ rest) ts
  conjugated-before steps [] rest [] count following are = following
  conjugated-before steps (b ∷ cs) rest [] count following are = absurd (omega (arith, count))
  conjugated-before steps [] rest (u ∷ ts) count following are = absurd are
  conjugated-before steps (b ∷ cs) rest (u ∷ ts) count following are = (are.0, are.1, conjugated-before steps cs rest ts (omega (arith, count)) following are.2)

-- the last conjugated checkpoint

differing-with : (n : ℕ) (cs : List Checkpoint) (ts : List TableauState) (c : Checkpoint) (t : TableauState) → length ts ≡ length cs
    → (p : Signed) × (length p.letters ≡ n) × (stabilises c.tableau p ≡ true) × (stabilises t p ≡ false) → IsLastDiffering n (cs ++ c ∷ []) (ts ++ t ∷ [])
differing-with n [] [] c t count distinct = distinct
differing-with n (b ∷ cs) [] c t count distinct = absurd (omega (arith, count))
differing-with n [] (u ∷ ts) c t count distinct = absurd (omega (arith, count))
differing-with n (b ∷ []) (u ∷ []) c t count distinct = distinct
differing-with n (b ∷ d ∷ cs) (u ∷ []) c t count distinct = absurd (omega (arith, count))
differing-with n (b ∷ cs) (u ∷ v ∷ ts) c t count distinct = differing-with n cs (v ∷ ts) c t (omega (arith, count)) distinct

differing-before : (n : ℕ) (cs rest : List Checkpoint) (ts : List TableauState) → IsLastDiffering n cs ts → IsLastDiffering n (cs ++ rest) ts
differing-before n [] rest [] distinct = absurd distinct
differing-before n (c ∷ cs) rest [] distinct = absurd distinct
differing-before n [] rest (t ∷ ts) distinct = absurd distinct
differing-before n (c ∷ cs) rest (t ∷ []) distinct = distinct
differing-before n (c ∷ cs) rest (t ∷ u ∷ ts) distinct = differing-before n cs rest (u ∷ ts) distinct

-- a frame was propagated over this many steps, past these checkpoints, which were conjugated; if there are any, it flips a record, or flips the sign of a stabiliser of
-- the last of them
pub record IsPast (n : ℕ) (strings : List (List Letter)) (free : List Bool) (back : List Step) (from steps : ℕ) (cs : List Checkpoint) (ts : List TableauState) (old new : PropagationState) : Type 0 where
  pub within : steps ≤ length back
  pub size : length new.letters ≡ n
  pub placed : IsPlaced free new
  pub propagated : PropagatesOver n (pivot_at strings free) (take steps back) old new
  pub enough : AreEnoughBy n (pivot_at strings free) free back steps old
  pub count : length ts ≡ length cs
  pub checkpoints : ArePropagatedCheckpoints n strings free back from steps old cs ts
  pub differs : 1 ≤ length ts → (1 ≤ ones new.flips.records) ⊎ IsLastDiffering n cs ts

-- with the state of the checkpoint at its step conjugated

past-checkpoint : {n : ℕ} {strings : List (List Letter)} {free : List Bool} {back : List Step} {from steps : ℕ} {cs : List Checkpoint} {ts : List TableauState} {old new : PropagationState}
    → IsPast n strings free back from steps cs ts old new → (c : Checkpoint) (t : TableauState) → steps ≡ c.step - from → c.tableau.qubits ≡ n → t.qubits ≡ c.tableau.qubits
    → IsConjugated c.tableau.qubits new.letters (stabilises c.tableau) (stabilises t) → (1 ≤ ones new.flips.records) ⊎ FramesSome new.letters c.tableau
    → IsPast n strings free back from (c.step - from) (cs ++ c ∷ []) (ts ++ t ∷ []) old new
past-checkpoint {n} {strings} {free} {back} {from} {steps} {cs} {ts} {old} {new} past c t at same qubits conjugated conjugates =
    subst (λ k. IsPast n strings free back from k (cs ++ c ∷ []) (ts ++ t ∷ []) old new) at
    (record {
      within = past.within;
      size = past.size;
      placed = past.placed;
      propagated = past.propagated;
      enough = past.enough;
      count = omega (arith, length-append ts (t ∷ []), length-append cs (c ∷ []), past.count);
      checkpoints =
          conjugated-with n strings free back from old steps cs ts c t past.count (omega (arith, at))
          (record {
            propagation = new;
            propagated = subst (λ k. PropagatesOver n (pivot_at strings free) (take k back) old new) at past.propagated;
            qubits = qubits;
            conjugated = subst (λ m. IsConjugated m new.letters (stabilises c.tableau) (stabilises t)) same conjugated;
          }) past.checkpoints;
      differs = λ some. differs conjugates;
    })
  where
    differs : (1 ≤ ones new.flips.records) ⊎ FramesSome new.letters c.tableau → (1 ≤ ones new.flips.records) ⊎ IsLastDiffering n (cs ++ c ∷ []) (ts ++ t ∷ [])
    differs (inl flips) = inl flips
    differs (inr some) = inr (differing-with n cs ts c t past.count (conjugated-differs n new.letters c.tableau t same some conjugated))

pub past-next : {n : ℕ} {strings : List (List Letter)} {free : List Bool} {back : List Step} {from steps : ℕ} {ts : List TableauState} {old new : PropagationState} (j : ℕ) (checkpoints : List Checkpoint)
    → IsPast n strings free back from steps (take j checkpoints) ts old new → (c : Checkpoint) (t : TableauState) (after : PropagationState) (us : List TableauState) → c ≡ get_or checkpoints j c → j < length checkpoints
    → us ≡ ts ++ t ∷ [] → steps ≡ c.step - from → after ≡ new → All (λ d. d.tableau.qubits ≡ n) checkpoints → t.qubits ≡ c.tableau.qubits
    → (letters : List Letter) → letters ≡ after.letters → IsConjugated c.tableau.qubits letters (stabilises c.tableau) (stabilises t) → (1 ≤ ones new.flips.records) ⊎ FramesSome new.letters c.tableau
    → IsPast n strings free back from (c.step - from) (take (j + 1) checkpoints) us old after
past-next {n} {strings} {free} {back} {from} {steps} {ts} {old} {new} j checkpoints past c t after us is lt with_it at same_walk same qubits letters read conjugated conjugates =
    subst (λ w. IsPast n strings free back from (c.step - from) (take (j + 1) checkpoints) us old w) (sym same_walk)
    (subst (λ vs. IsPast n strings free back from (c.step - from) (take (j + 1) checkpoints) vs old new) (sym with_it)
    (subst (λ ds. IsPast n strings free back from (c.step - from) ds (ts ++ t ∷ []) old new) (sym front)
    (past-checkpoint past c t at (subst (λ d. d.tableau.qubits ≡ n) (sym is) (All-get_or (λ d. d.tableau.qubits ≡ n) checkpoints j c lt same)) qubits
    (subst (λ l. IsConjugated c.tableau.qubits l (stabilises c.tableau) (stabilises t)) (read ∙ ap (λ (w : PropagationState). w.letters) same_walk) conjugated) conjugates)))
  where
    front : take (j + 1) checkpoints ≡ take j checkpoints ++ c ∷ []
    front = ap (λ k. take k checkpoints) {y = suc j} (omega arith) ∙ take-suc checkpoints j c lt ∙ ap (λ d. take j checkpoints ++ d ∷ []) (sym is)

-- a frame that may be propagated over some steps may go on over those that are left of them
pub may-later : (stored : PivotsState) (free : List Bool) (xs ys : List Step) (a b : ℕ) (w v : PropagationState) (k : ℕ) → MayPropagate stored free 0 xs a w → length v.letters ≡ length w.letters
    → ys ≡ drop k xs → IsPlaced free v → v.coin + length ys ≤ w.coin + length xs → b + length ys ≤ a + length xs → MayPropagate stored free 0 ys b v
may-later stored free xs ys a b w v k may size rest placed coin counted = record {
  same_length = may.same_length ∙ sym size;
  fits = subst (λ m. All (StepFits m) ys) (sym size) (subst (All (StepFits (length w.letters))) (sym rest) (All-drop (StepFits (length w.letters)) k xs may.fits));
  placed = placed;
  few = omega (arith, may.few, coin);
  few_passed = omega (arith, may.few_passed, counted);
}

-- a propagation over some of the steps that are left

module _ {n : ℕ} {strings : List (List Letter)} {free : List Bool} {back : List Step} {from k : ℕ} {cs : List Checkpoint} {ts : List TableauState} {old now : PropagationState}
    (past : IsPast n strings free back from k cs ts old now) (left : List Step) (rest : left ≡ drop k back) where
  pub short-left : length left ≤ length back
  short-left = omega (arith, ap length rest, length-drop k back)

  pub may-further : (stored : PivotsState) (first by_frame : ℕ) → by_frame ≤ first + k → n ≡ length old.letters → MayPropagate stored free 0 back first old → MayPropagate stored free 0 left by_frame now
  may-further stored first by_frame so size may =
      may-later stored free back left first by_frame old now k may (past.size ∙ size) rest past.placed
      (omega (arith, past.propagated.coin, coins-steps (take k back), length-take k back, ap length rest, length-drop k back, past.within))
      (omega (arith, so, ap length rest, length-drop k back, past.within))

  -- and the count of them

  pub most-counted : (first by_frame after most : ℕ) → by_frame ≤ first + k → after ≤ by_frame + length (take most left) → after ≤ first + length back
  most-counted first by_frame after most so le = omega (arith, so, le, length-take most left, ap length rest, length-drop k back, past.within)

  -- a string that is missing after more of them
  pub missing-more : (first by_frame after : ℕ) → by_frame ≤ first + k → first + k ≤ by_frame → by_frame ≤ after → IsMissing strings free (now.coin + all_coins_of (take (after - by_frame) left))
      → IsMissing strings free (old.coin + all_coins_of (take (after - first) back))
  missing-more first by_frame after most least le missing =
      subst (λ c. IsMissing strings free c)
      (omega (
        arith,
        past.propagated.coin,
        ap all_coins_of (take-add k (after - by_frame) back),
        coins-append (take k back) (take (after - by_frame) (drop k back)),
        ap (λ xs. all_coins_of (take (after - by_frame) xs)) rest,
        ap (λ j. all_coins_of (take j back)) {x = k + (after - by_frame)} {y = after - first} (omega (arith, most, least, le)),
      )) missing

  module _ (m most : ℕ) (new : PropagationState) (few : m ≤ length (take most left)) (size : length new.letters ≡ length now.letters) (placed : IsPlaced free new)
      (propagated : PropagatesOver (length now.letters) (pivot_at strings free) (take m left) now new)
      (enough : AreEnoughBy (length now.letters) (pivot_at strings free) free left m now) where
    walked_rest : PropagatesOver n (pivot_at strings free) (take m (drop k back)) now new
    walked_rest = subst (λ i. PropagatesOver i (pivot_at strings free) (take m (drop k back)) now new) past.size
        (subst (λ xs. PropagatesOver (length now.letters) (pivot_at strings free) (take m xs) now new) rest propagated)

    enough_rest : AreEnoughBy n (pivot_at strings free) free (drop k back) m now
    enough_rest = subst (λ i. AreEnoughBy i (pivot_at strings free) free (drop k back) m now) past.size
        (subst (λ xs. AreEnoughBy (length now.letters) (pivot_at strings free) free xs m now) rest enough)

    pub past-more : IsPast n strings free back from (k + m) cs ts old new
    past-more = record {
      within = omega (arith, few, length-take most left, ap length rest, length-drop k back, past.within);
      size = size ∙ past.size;
      placed = placed;
      propagated =
          subst (λ xs. PropagatesOver n (pivot_at strings free) xs old new) (sym (take-add k m back))
          (over-append n (same_coins (pivot_at strings free)) (take k back) (take m (drop k back)) old now new past.propagated walked_rest);
      enough = enough-more n (pivot_at strings free) free back k m old now past.propagated past.enough enough_rest;
      count = past.count;
      checkpoints = conjugated-further n strings free back from old k (k + m) cs ts (omega arith) past.count past.checkpoints;
      differs = λ some. differs (past.differs some);
    }
      where
        differs : (1 ≤ ones now.flips.records) ⊎ IsLastDiffering n cs ts → (1 ≤ ones new.flips.records) ⊎ IsLastDiffering n cs ts
        differs (inl flips) = inl (flips-more n (pivot_at strings free) (take m (drop k back)) now new walked_rest flips)
        differs (inr distinct) = inr distinct

    module _ (window : ℕ) (checkpoints others : List Checkpoint) (all : cs ++ others ≡ checkpoints) (following : All (λ c. k + m ≤ c.step - from) others) where
      -- where it ends, of all checkpoints
      conjugated_all : ArePropagatedCheckpoints n strings free back from (k + m) old checkpoints ts
      conjugated_all = subst (λ ds. ArePropagatedCheckpoints n strings free back from (k + m) old ds ts) all (conjugated-before n strings free back from old (k + m) cs others ts past.count following past-more.checkpoints)

      differs_all : 1 ≤ length ts → (1 ≤ ones new.flips.records) ⊎ IsLastDiffering n checkpoints ts
      differs_all some = of-all (past-more.differs some)
        where
          of-all : (1 ≤ ones new.flips.records) ⊎ IsLastDiffering n cs ts → (1 ≤ ones new.flips.records) ⊎ IsLastDiffering n checkpoints ts
          of-all (inl flips) = inl flips
          of-all (inr distinct) = inr (subst (λ ds. IsLastDiffering n ds ts) all (differing-before n cs others ts distinct))

      advanced-there : Ending n window back from (k + m) checkpoints ts new new → IsRestFrame n strings free window back from checkpoints ts old new
      advanced-there ends = record {
        steps = k + m;
        within = past-more.within;
        last = new;
        propagated = past-more.propagated;
        enough = past-more.enough;
        ends = ends;
        checkpoints = conjugated_all;
        differs = differs_all;
      }

      -- it is dropped at the next checkpoint
      pub advanced-dropped : (c : Checkpoint) (left-over : PropagationState) → slice_get checkpoints (length ts) ≡ Some c → k + m ≡ c.step - from → Stabilise new.letters c.tableau
          → left-over ≡ record new { letters = replicate (length new.letters) I } → ((i : ℕ) → i ≤ window → looked_up new.flips.records i ≡ false)
          → IsRestFrame n strings free window back from checkpoints ts old left-over
      advanced-dropped c left-over here at stabilise blank quiet = record {
        steps = k + m;
        within = past-more.within;
        last = new;
        propagated = past-more.propagated;
        enough = past-more.enough;
        ends =
            Ending.dropped c here (sym at)
            (record {
              stabilise = stabilise;
              left = blank_there;
              gone = λ base.
                  quiet-gone n window base left-over (ap (λ (w : PropagationState). w.letters) blank_there)
                  (subst (λ (w : PropagationState). (i : ℕ) → i ≤ window → looked_up w.flips.records i ≡ false) (sym blank_there) quiet);
            });
        checkpoints = conjugated_all;
        differs = subst (λ (w : PropagationState). 1 ≤ length ts → (1 ≤ ones w.flips.records) ⊎ IsLastDiffering n checkpoints ts) (sym blank_there) differs_all;
      }
        where
          blank_there : left-over ≡ record new { letters = replicate n I }
          blank_there = blank ∙ ap (λ i. record new { letters = replicate i I }) past-more.size

      -- it is gone before the next checkpoint
      pub advanced-gone : (stop : Stop) → IsStop (length now.letters) window m (length (take most left)) new stop → stop ≡ Gone → IsRestFrame n strings free window back from checkpoints ts old new
      advanced-gone stop stops is =
          advanced-there
          (Ending.gone (λ base. subst (λ i. IsGone i window (frame_at base new)) past.size (subst (IsStop (length now.letters) window m (length (take most left)) new) is stops base)) refl)

    -- after the last checkpoint it passed all that is left, or is gone there
    pub advanced-following : (window : ℕ) (checkpoints : List Checkpoint) → cs ≡ checkpoints → length left ≤ most → (stop : Stop) → IsStop (length now.letters) window m (length (take most left)) new stop
        → stop ≢ NoString → IsRestFrame n strings free window back from checkpoints ts old new
    advanced-following window checkpoints all long stop stops determined = by-stop stop refl
      where
        none-following : All (λ (c : Checkpoint). k + m ≤ c.step - from) []
        none-following = All-nil (λ (c : Checkpoint). k + m ≤ c.step - from)

        whole : stop ≡ After → k + m ≡ length back
        whole is =
            let steps_all : m ≡ length (take most left) = subst (IsStop (length now.letters) window m (length (take most left)) new) is stops in
            omega (arith, steps_all, length-take most left, long, ap length rest, length-drop k back, past.within)

        by-stop : (s : Stop) → stop ≡ s → IsRestFrame n strings free window back from checkpoints ts old new
        by-stop After e = advanced-there window checkpoints [] (append-nil cs ∙ all) none-following (Ending.over (whole e) (past.count ∙ ap length all) refl)
        by-stop Gone e = advanced-gone window checkpoints [] (append-nil cs ∙ all) none-following stop stops e
        by-stop NoString e = absurd (determined e)

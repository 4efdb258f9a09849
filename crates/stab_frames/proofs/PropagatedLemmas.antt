-- Passes: a frame over one step, and over steps one after another.
use Rattle.stab_frames.proofs.Names.{◌≡◌, ℕ, zero, suc, ◌+◌, refl, sym, ◌∙◌, ap, subst, Bool, false, List, [], ◌∷◌, ◌++◌, append_assoc, drop, replicate, get_or, arith, Option, Some, None, IfSome, Letter, Signed, single, Event, member, is_random, IsPivot, Step, one, two, controlled, collapse, product, detector, observable, string_of, Point, RunOutput, nothing, joined, coins_of, all_coins_of, given, next_point, outputs, joined-nothing, joined-assoc, coins-append, Frame, times_where, RunPivots, pivots_of, IsPivotOf, letters_after, flips_given, frame_after, frame_over, flips_over, IsEnoughAt, AreEnough, pivot_at, IsTrueAt, AreTrue, PropagationState, frame_at, PropagatesWith, StepsWith, IsStepDetermined, AreDetermined, IsDeterminedBy, IsEnough, measured_by, strings_anticommute}
use Rattle.stab_frames.proofs.StillLemmas.{looked_up-base, parity-base}
use Rattle.stab_frames.proofs.OverLemmas.{frame-append, flips-append}

-- where a frame began is irrelevant to a step

letters-base : (n : ℕ) (pivots : RunPivots) (x : Step) (coin base : ℕ) (w : PropagationState)
    → letters_after n pivots x coin (frame_at base w) ≡ letters_after n pivots x coin (frame_at 0 w)
letters-base n pivots (one g q) coin base w = refl
letters-base n pivots (two g a b) coin base w = refl
letters-base n pivots (controlled l k q) coin base w = ap (λ b. times_where b (single n q l).letters w.letters) (looked_up-base base w.flips.records k)
letters-base n pivots (collapse l q recorded inverted resets) coin base w = refl
letters-base n pivots (product factors inverted) coin base w = refl
letters-base n pivots (detector ks) coin base w = refl
letters-base n pivots (observable j ks) coin base w = refl

flips-base : (n : ℕ) (pivots : RunPivots) (x : Step) (coin base : ℕ) (w : PropagationState)
    → flips_given n pivots x coin (frame_at base w) ≡ flips_given n pivots x coin (frame_at 0 w)
flips-base n pivots (one g q) coin base w = refl
flips-base n pivots (two g a b) coin base w = refl
flips-base n pivots (controlled l k q) coin base w = refl
flips-base n pivots (collapse l q recorded inverted resets) coin base w = refl
flips-base n pivots (product factors inverted) coin base w = refl
flips-base n pivots (detector ks) coin base w =
    ap (λ b. record nothing { detectors = b ∷ [] }) (parity-base base w.flips.records ks)
flips-base n pivots (observable j ks) coin base w =
    ap (λ b. record nothing { additions = record { observable = j; bit = b } ∷ [] }) (parity-base base w.flips.records ks)

-- over one step, none, and steps one after another

pub over-step : (n : ℕ) (pivots : RunPivots) (x : Step) (old new : PropagationState) → StepsWith n pivots x old new → PropagatesWith n pivots (x ∷ []) old new
over-step n pivots x old new p = record {
  frame = λ base i. record {
    letters = (p.letters ∙ sym (letters-base n pivots x old.coin base old)) i;
    flips =
        (ap (λ (o : RunOutput). replicate base false ++ o.records) p.flips
        ∙ sym (append_assoc (replicate base false) old.flips.records (flips_given n pivots x old.coin (frame_at 0 old)).records)
        ∙ ap (λ (o : RunOutput). (replicate base false ++ old.flips.records) ++ o.records) (sym (flips-base n pivots x old.coin base old))) i;
  };
  flips = λ base.
      p.flips
      ∙ ap (joined old.flips) (sym (flips-base n pivots x old.coin base old) ∙ sym (joined-nothing (flips_given n pivots x old.coin (frame_at base old))));
  coin = p.coin ∙ one_more old.coin (coins_of x);
}
  where
    one_more : (a b : ℕ) → a + b ≡ a + (b + 0)
    one_more a b = omega arith

pub over-none : (n : ℕ) (pivots : RunPivots) (w : PropagationState) → PropagatesWith n pivots [] w w
over-none n pivots w = record {
  frame = λ base. refl;
  flips = λ base. sym (joined-nothing w.flips);
  coin = none w.coin;
}
  where
    none : (a : ℕ) → a ≡ a + 0
    none a = omega arith

pub over-append : (n : ℕ) (pivots : RunPivots) (xs ys : List Step) (a b c : PropagationState) → PropagatesWith n pivots xs a b
    → PropagatesWith n pivots ys b c → PropagatesWith n pivots (xs ++ ys) a c
over-append n pivots xs ys a b c first then = record {
  frame = λ base.
      then.frame base
      ∙ (λ i. frame_over n pivots ys (first.coin i) (first.frame base i))
      ∙ sym (frame-append n pivots xs ys a.coin (frame_at base a));
  flips = λ base.
      then.flips base
      ∙ (λ i. joined (first.flips base i) (flips_over n pivots ys (first.coin i) (first.frame base i)))
      ∙ joined-assoc a.flips (flips_over n pivots xs a.coin (frame_at base a)) (flips_over n pivots ys (a.coin + all_coins_of xs) (frame_over n pivots xs a.coin (frame_at base a)))
      ∙ ap (joined a.flips) (sym (flips-append n pivots xs ys a.coin (frame_at base a)));
  coin = then.coin ∙ ap (λ k. k + all_coins_of ys) first.coin ∙ more a.coin (all_coins_of xs) (all_coins_of ys) ∙ ap (λ k. a.coin + k) (sym (coins-append xs ys));
}
  where
    more : (a b c : ℕ) → (a + b) + c ≡ a + (b + c)
    more a b c = omega arith

-- what has to be known, over steps one after another

pub determined-append : (n : ℕ) (strings : List (List Letter)) (free : List Bool) (changes : ℕ → Bool) (xs ys : List Step) (coin : ℕ) (f : Frame)
    → AreDetermined n strings free changes xs coin f
    → AreDetermined n strings free changes ys (coin + all_coins_of xs) (frame_over n (pivots_of (pivot_at strings free) changes) xs coin f)
    → AreDetermined n strings free changes (xs ++ ys) coin f
determined-append n strings free changes [] ys coin f front rest = subst (λ c. AreDetermined n strings free changes ys c f) (none coin) rest
  where
    none : (a : ℕ) → a + 0 ≡ a
    none a = omega arith
determined-append n strings free changes (x ∷ xs) ys coin f front rest = (
  front.0,
  determined-append n strings free changes xs ys (coin + coins_of x) (frame_after n pivots x coin f) front.1
      (subst (λ c. AreDetermined n strings free changes ys c (frame_over n pivots xs (coin + coins_of x) (frame_after n pivots x coin f))) (more coin (coins_of x) (all_coins_of xs)) rest),
)
  where
    pivots : RunPivots
    pivots = pivots_of (pivot_at strings free) changes

    more : (a b c : ℕ) → a + (b + c) ≡ (a + b) + c
    more a b c = omega arith

none : (k : ℕ) → k + 0 ≡ k
none k = omega arith

-- what is said, strings that are true and the run's randomness are enough

pub pivot-enough : (n : ℕ) (trace : List Event) (m : Signed) (pivot : Option (List Letter)) (flag : Bool) → (pivot ≡ None → flag ≡ false)
    → flag ≡ is_random trace m → IfSome pivot (λ s. IsPivot n (member trace) m s) → IsPivotOf n (member trace) m pivot
pivot-enough n trace m None flag determined e is = sym e ∙ determined refl
pivot-enough n trace m (Some s) flag determined e is = is

pub first-flag : (free : List Bool) (coin : ℕ) (b : Bool) (bits : List Bool) → drop coin free ≡ b ∷ bits → (get_or free coin false ≡ b) × (drop (coin + 1) free ≡ bits)
first-flag [] zero b bits e = cc
first-flag [] (suc coin) b bits e = cc
first-flag (x ∷ free) zero b bits e = (cc, cc)
first-flag (x ∷ free) (suc coin) b bits e =
    let later = first-flag free coin b bits e in
    (later.0, ap (λ k. drop k (x ∷ free)) one_more ∙ later.1)
  where
    one_more : suc coin + 1 ≡ suc (coin + 1)
    one_more = omega arith

-- the pivot of what a step measures is right, if none was stored of a fixed outcome alone
pub stored-pivot : (n : ℕ) (coins : ℕ → Bool) (strings : List (List Letter)) (free : List Bool) (x : Step) (a : Point)
    → IsTrueAt n (pivot_at strings free) x a → (rest : List Bool) → drop a.coin free ≡ (given n coins x a).free ++ rest
    → IfSome (measured_by n x) (λ m. (pivot_at strings free a.coin ≡ None → get_or free a.coin false ≡ false) → IsPivotOf n (member a.trace) m (pivot_at strings free a.coin))
    × (drop (a.coin + coins_of x) free ≡ rest)
stored-pivot n coins strings free (one g q) a is rest randomness = (tt, ap (λ k. drop k free) (none a.coin) ∙ randomness)
stored-pivot n coins strings free (two g p q) a is rest randomness = (tt, ap (λ k. drop k free) (none a.coin) ∙ randomness)
stored-pivot n coins strings free (controlled l k q) a is rest randomness = (tt, ap (λ k. drop k free) (none a.coin) ∙ randomness)
stored-pivot n coins strings free (collapse l q recorded inverted resets) a is rest randomness =
    let first = first-flag free a.coin (is_random a.trace (single n q l)) rest randomness in
    ((λ fixed. pivot-enough n a.trace (single n q l) (pivot_at strings free a.coin) (get_or free a.coin false) fixed first.0 is), first.1)
stored-pivot n coins strings free (product factors inverted) a is rest randomness =
    let first = first-flag free a.coin (is_random a.trace (string_of n factors)) rest randomness in
    ((λ fixed. pivot-enough n a.trace (string_of n factors) (pivot_at strings free a.coin) (get_or free a.coin false) fixed first.0 is), first.1)
stored-pivot n coins strings free (detector ks) a is rest randomness = (tt, ap (λ k. drop k free) (none a.coin) ∙ randomness)
stored-pivot n coins strings free (observable j ks) a is rest randomness = (tt, ap (λ k. drop k free) (none a.coin) ∙ randomness)

step-enough : (n : ℕ) (coins : ℕ → Bool) (strings : List (List Letter)) (free : List Bool) (changes : ℕ → Bool) (x : Step) (f : List Letter) (a : Point)
    → IsStepDetermined n strings free changes x a.coin f → IsTrueAt n (pivot_at strings free) x a → (rest : List Bool) → drop a.coin free ≡ (given n coins x a).free ++ rest
    → IsEnoughAt n (pivots_of (pivot_at strings free) changes) x f a × (drop (a.coin + coins_of x) free ≡ rest)
step-enough n coins strings free changes x f a determined is rest randomness =
    let here = stored-pivot n coins strings free x a is rest randomness in
    (by_measured (measured_by n x) determined here.0, here.1)
  where
    pivot : Option (List Letter)
    pivot = pivot_at strings free a.coin

    by_measured : (o : Option Signed) → IfSome o (λ m. IsDeterminedBy strings free a.coin (changes a.coin) (strings_anticommute f m.letters))
        → IfSome o (λ m. (pivot ≡ None → get_or free a.coin false ≡ false) → IsPivotOf n (member a.trace) m pivot)
        → IfSome o (λ m. IsEnough n (member a.trace) m f (changes a.coin) pivot)
    by_measured None determined right = tt
    by_measured (Some m) determined right = λ differs. right (determined differs)

pub determined-enough : (n : ℕ) (coins : ℕ → Bool) (strings : List (List Letter)) (free : List Bool) (changes : ℕ → Bool) (xs : List Step) (f : Frame) (a : Point)
    → AreDetermined n strings free changes xs a.coin f → AreTrue n coins (pivot_at strings free) xs a → (rest : List Bool) → drop a.coin free ≡ (outputs n coins xs a).free ++ rest
    → AreEnough n coins (pivots_of (pivot_at strings free) changes) xs f a
determined-enough n coins strings free changes [] f a determined is rest randomness = tt
determined-enough n coins strings free changes (x ∷ xs) f a determined is rest randomness =
    let next = next_point n coins x a in
    let here = step-enough n coins strings free changes x f.letters a determined.0 is.0 ((outputs n coins xs next).free ++ rest)
    (randomness ∙ append_assoc (given n coins x a).free (outputs n coins xs next).free rest) in
    (here.0, determined-enough n coins strings free changes xs (frame_after n (pivots_of (pivot_at strings free) changes) x a.coin f) next determined.1 is.1 rest here.1)

-- Pivots: which are enough for a frame, and what a trace, randomness and a tableau say of a measurement.
use Rattle.stab_frames.proofs.Names.{◌≡◌, ℕ, zero, suc, ◌+◌, ◌<◌, ◌≤◌, refl, sym, ◌∙◌, ap, subst, Bool, true, false, List, [], ◌∷◌, ◌++◌, length, replicate, get_or, arith, Option, Some, None, is_some, take_all, All-head, All-tail, IfSome_then, Letter, ◌⊕◌, Signed, single, anticommute, strings_anticommute, parity-self, strings_anticommute-comm, is_random_by, member, is_random, IsStabiliserGroup, IsPivot, not_both, length-one_letter, anticommuting-member_of_random, Step, one, two, controlled, collapse, product, detector, observable, string_of, measured_by, Point, given, coins_of, all_coins_of, next_point, outputs, StepFits, length-string_of, coins-one, no_strings, IsPivotOf, frame_after, IsRightAt, AreEnough, RightPivotsAreEnough, FlippedCoinsNeedNoPivots, PivotsAreEnoughBefore, MeasurementsHavePivots, RandomnessDeterminesPivots}
use Rattle.stab_frames.proofs.MeasuredLemmas.{pivoted-random}
use Rattle.stab_frames.proofs.StepLemmas.{group-next}

-- which pivots are enough for a frame

pub right-enough : RightPivotsAreEnough
right-enough n coins pivots [] f a right = tt
right-enough n coins pivots (x ∷ xs) f a right = (
  IfSome_then (measured_by n x) right.0 (λ m is. λ distinct. is),
  right-enough n coins pivots xs (frame_after n pivots x a.coin f) (next_point n coins x a) right.1,
)

pub conjugated-enough : FlippedCoinsNeedNoPivots
conjugated-enough n coins changes [] f a conjugated = tt
conjugated-enough n coins changes (x ∷ xs) f a conjugated = (
  IfSome_then (measured_by n x) conjugated.0
      (λ m is. λ distinct. absurd (not_both (changes a.coin ⊕ strings_anticommute f.letters m.letters) (same (changes a.coin) (strings_anticommute f.letters m.letters) is) distinct)),
  conjugated-enough n coins changes xs (frame_after n (no_strings changes) x a.coin f) (next_point n coins x a) conjugated.1,
)
  where
    same : (b c : Bool) → b ≡ c → b ⊕ c ≡ false
    same b c is = ap (λ d. d ⊕ c) is ∙ parity-self c

pub enough-before : PivotsAreEnoughBefore
enough-before n coins pivots i [] f a enough = subst (λ ys. AreEnough n coins pivots ys f a) (sym (take_all i [] (omega arith))) tt
enough-before n coins pivots zero (x ∷ xs) f a enough = tt
enough-before n coins pivots (suc i) (x ∷ xs) f a enough = (enough.0, enough-before n coins pivots i xs (frame_after n pivots x a.coin f) (next_point n coins x a) enough.1)

-- what there is to record

-- a member that anticommutes is a pivot
pub member-pivot : (n : ℕ) (u : Signed → Bool) (q s : Signed) → length s.letters ≡ n → u s ≡ true → anticommute q s ≡ true → IsPivot n u q s.letters
member-pivot n u q s size is distinct = record {
  size = size;
  negative = s.negative;
  stabilises = is;
  anticommutes = strings_anticommute-comm s.letters q.letters ∙ distinct;
}

-- each measurement in a sound trace has a pivot
pub measurement-pivot : MeasurementsHavePivots
measurement-pivot n t fits sound q lq = by_flag (is_random t q) refl
  where
    by_flag : (b : Bool) → is_random t q ≡ b → (o : Option (List Letter)) × IsPivotOf n (member t) q o
    by_flag false e = (None, e)
    by_flag true e =
        let h = anticommuting-member_of_random n t fits sound q lq e in
        (Some (h.0).letters, member-pivot n (member t) q h.0 h.1 h.2 h.3)

-- right pivots, and the randomness that steps give

pivot-random : (n : ℕ) (u : Signed → Bool) → IsStabiliserGroup n u → (m : Signed) → length m.letters ≡ n → (pivot : Option (List Letter))
    → IsPivotOf n u m pivot → is_random_by u m ≡ is_some pivot
pivot-random n u group m size None right = right
pivot-random n u group m size (Some s) right = pivoted-random n u group m size s right

randomness-given : (n : ℕ) (coins : ℕ → Bool) (strings : ℕ → Option (List Letter)) (x : Step) (a : Point) → IsStabiliserGroup n (member a.trace)
    → IsRightAt n strings x a → (given n coins x a).free ≡ replicate (coins_of x) (is_some (strings a.coin))
randomness-given n coins strings (one g q) a group right = refl
randomness-given n coins strings (two g p q) a group right = refl
randomness-given n coins strings (controlled l k q) a group right = refl
randomness-given n coins strings (collapse l q recorded inverted resets) a group right =
    ap (λ b. b ∷ []) (pivot-random n (member a.trace) group (single n q l) (length-one_letter n q l) (strings a.coin) right)
randomness-given n coins strings (product factors inverted) a group right =
    ap (λ b. b ∷ []) (pivot-random n (member a.trace) group (string_of n factors) (length-string_of n factors) (strings a.coin) right)
randomness-given n coins strings (detector ks) a group right = refl
randomness-given n coins strings (observable j ks) a group right = refl

-- the randomness of one step in front of that of others
flag-joined : (c rest : ℕ) → c ≤ 1 → (bits : ℕ → Bool) (coin : ℕ) (later : List Bool) → ((t : ℕ) → t < rest → get_or later t false ≡ bits ((coin + c) + t))
    → (t : ℕ) → t < c + rest → get_or (replicate c (bits coin) ++ later) t false ≡ bits (coin + t)
flag-joined zero rest few bits coin later at t lt = at t (omega arith) ∙ ap bits (omega arith)
flag-joined (suc zero) rest few bits coin later at zero lt = ap bits (omega arith)
flag-joined (suc zero) rest few bits coin later at (suc t) lt = at t (omega arith) ∙ ap bits (omega arith)
flag-joined (suc (suc c)) rest few bits coin later at t lt = absurd (omega arith)

pub randomness-has_pivots : RandomnessDeterminesPivots
randomness-has_pivots n coins strings [] a fits group right t lt = absurd (omega arith)
randomness-has_pivots n coins strings (x ∷ xs) a fits group right t lt =
    let next = next_point n coins x a in
    ap (λ randomness. get_or (randomness ++ (outputs n coins xs next).free) t false) (randomness-given n coins strings x a group right.0)
    ∙ flag-joined (coins_of x) (all_coins_of xs) (coins-one x) (λ k. is_some (strings k)) a.coin (outputs n coins xs next).free
    (randomness-has_pivots n coins strings xs next (All-tail (StepFits n) x xs fits) (group-next n coins x a (All-head (StepFits n) x xs fits) group) right.1) t lt

-- Fixed outcomes: if no coin decides, it makes no difference which number the next coin has.
use Rattle.stab_run.proofs.Names.{◌≡◌, ℕ, ◌+◌, refl, ◌∙◌, ap, Bool, true, false, ◌&&◌, not, List, [], ◌∷◌, ◌++◌, arith, if◌then◌else◌, ◌⊕◌, Signed, single, minus, Event, member, is_random, projected, Step, one, two, controlled, collapse, product, detector, observable, ones, when, string_of, outcome_at, collapsed, Point, nothing, joined, given, trace_after, coins_of, next_point, point_after, outputs, with_coin, FixedOutcomesNeedNoCoins}
use Rattle.stab_run.proofs.RecordLemmas.{ones-append}

decided : (a b c d : Bool) → ones ((not a && not b) ∷ []) ≡ 0 → (if a then false else (if b then true else c)) ≡ (if a then false else (if b then true else d))
decided true b c d none = refl
decided false true c d none = refl
decided false false c d none = absurd (omega (arith, none))

-- an outcome that is not random is the same with each coin
outcome-fixed : (coins : ℕ → Bool) (p : Signed) (trace : List Event) (c d : ℕ) → ones (is_random trace p ∷ []) ≡ 0 → outcome_at coins p trace c ≡ outcome_at coins p trace d
outcome-fixed coins p trace c d none = decided (member trace p) (member trace (minus p)) (coins c) (coins d) none

module _ (n : ℕ) (coins : ℕ → Bool) (c : ℕ) (a : Point) where
  given-fixed : (x : Step) → ones (given n coins x a).free ≡ 0 → given n coins x (with_coin c a) ≡ given n coins x a
  given-fixed (one g q) none = refl
  given-fixed (two g q r) none = refl
  given-fixed (controlled l k q) none = refl
  given-fixed (collapse l q recorded inverted resets) none = λ i. record nothing {
    records = when recorded (inverted ⊕ outcome-fixed coins (single n q l) a.trace c a.coin none i);
    free = is_random a.trace (single n q l) ∷ [];
    outcomes = outcome-fixed coins (single n q l) a.trace c a.coin none i ∷ [];
  }
  given-fixed (product factors inverted) none = λ i. record nothing {
    records = (inverted ⊕ outcome-fixed coins (string_of n factors) a.trace c a.coin none i) ∷ [];
    free = is_random a.trace (string_of n factors) ∷ [];
    outcomes = outcome-fixed coins (string_of n factors) a.trace c a.coin none i ∷ [];
  }
  given-fixed (detector ks) none = refl
  given-fixed (observable j ks) none = refl

  trace-fixed : (x : Step) → ones (given n coins x a).free ≡ 0 → trace_after n coins x (with_coin c a) ≡ trace_after n coins x a
  trace-fixed (one g q) none = refl
  trace-fixed (two g q r) none = refl
  trace-fixed (controlled l k q) none = refl
  trace-fixed (collapse l q recorded inverted resets) none =
      ap (λ o. collapsed n l q resets o a.trace) (outcome-fixed coins (single n q l) a.trace c a.coin none)
  trace-fixed (product factors inverted) none =
      ap (λ o. projected (string_of n factors) o ∷ a.trace) (outcome-fixed coins (string_of n factors) a.trace c a.coin none)
  trace-fixed (detector ks) none = refl
  trace-fixed (observable j ks) none = refl

  next-fixed : (x : Step) → ones (given n coins x a).free ≡ 0 → next_point n coins x (with_coin c a) ≡ with_coin (c + coins_of x) (next_point n coins x a)
  next-fixed x none = λ i. record {
    trace = trace-fixed x none i;
    coin = c + coins_of x;
    records = a.records ++ (given-fixed x none i).records;
  }

pub fixed-future : FixedOutcomesNeedNoCoins
fixed-future n coins c [] a none = (refl, ap (λ k. with_coin k a) (omega arith))
fixed-future n coins c (x ∷ xs) a none =
    let sum = ones-append (given n coins x a).free (outputs n coins xs (next_point n coins x a)).free in
    let here : ones (given n coins x a).free ≡ 0 = omega (arith, none, sum) in
    let following : ones (outputs n coins xs (next_point n coins x a)).free ≡ 0 = omega (arith, none, sum) in
    let next = next-fixed n coins c a x here in
    let later = fixed-future n coins (c + coins_of x) xs (next_point n coins x a) following in (
      (λ i. joined (given-fixed n coins c a x here i) ((ap (outputs n coins xs) next ∙ later.0) i)),
      ap (point_after n coins xs) next ∙ later.1 ∙ ap (λ k. with_coin k (point_after n coins xs (next_point n coins x a))) (omega arith),
    )

-- no coin decides in the first of these steps
pub fixed-front : (n : ℕ) (coins : ℕ → Bool) (xs ys : List Step) (a : Point) → ones (outputs n coins (xs ++ ys) a).free ≡ 0 → ones (outputs n coins xs a).free ≡ 0
fixed-front n coins [] ys a none = refl
fixed-front n coins (x ∷ xs) ys a none =
    let sum = ones-append (given n coins x a).free (outputs n coins (xs ++ ys) (next_point n coins x a)).free in
    let first = ones-append (given n coins x a).free (outputs n coins xs (next_point n coins x a)).free in
    let following : ones (outputs n coins xs (next_point n coins x a)).free ≡ 0 = fixed-front n coins xs ys (next_point n coins x a) (omega (arith, none, sum)) in
    omega (arith, none, sum, first, following)

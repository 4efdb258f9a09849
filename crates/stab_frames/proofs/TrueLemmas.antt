-- True strings: in parts, by the pivots of their coins, and from one run to another.
use Rattle.stab_frames.proofs.Names.{◌≡◌, ℕ, ◌+◌, ◌<◌, ◌≤◌, sym, ◌∙◌, ap, subst, Bool, List, [], ◌∷◌, ◌++◌, arith, Option, Some, None, IfSome, Letter, Signed, single, member, SameGroup, IsPivot, Step, one, two, controlled, collapse, product, detector, observable, string_of, measured_by, Point, coins_of, all_coins_of, next_point, point_after, AreTrue}

-- in parts

pub true-append : (n : ℕ) (coins : ℕ → Bool) (strings : ℕ → Option (List Letter)) (xs ys : List Step) (a : Point) → AreTrue n coins strings xs a
    → AreTrue n coins strings ys (point_after n coins xs a) → AreTrue n coins strings (xs ++ ys) a
true-append n coins strings [] ys a front rest = rest
true-append n coins strings (x ∷ xs) ys a front rest = (front.0, true-append n coins strings xs ys (next_point n coins x a) front.1 rest)

pub true-front : (n : ℕ) (coins : ℕ → Bool) (strings : ℕ → Option (List Letter)) (xs ys : List Step) (a : Point) → AreTrue n coins strings (xs ++ ys) a
    → AreTrue n coins strings xs a
true-front n coins strings [] ys a is = tt
true-front n coins strings (x ∷ xs) ys a is = (is.0, true-front n coins strings xs ys (next_point n coins x a) is.1)

pub true-rest : (n : ℕ) (coins : ℕ → Bool) (strings : ℕ → Option (List Letter)) (xs ys : List Step) (a : Point) → AreTrue n coins strings (xs ++ ys) a
    → AreTrue n coins strings ys (point_after n coins xs a)
true-rest n coins strings [] ys a is = is
true-rest n coins strings (x ∷ xs) ys a is = true-rest n coins strings xs ys (next_point n coins x a) is.1

-- by the pivots of the coins of what is measured

true-step : (n : ℕ) (u : Signed → Bool) (x : Step) (pivot other : Option (List Letter)) → (0 < coins_of x → pivot ≡ other)
    → IfSome (measured_by n x) (λ m. IfSome pivot (λ s. IsPivot n u m s)) → IfSome (measured_by n x) (λ m. IfSome other (λ s. IsPivot n u m s))
true-step n u (one g q) pivot other same is = tt
true-step n u (two g p q) pivot other same is = tt
true-step n u (controlled l k q) pivot other same is = tt
true-step n u (collapse l q recorded inverted resets) pivot other same is =
    subst (λ o. IfSome o (λ s. IsPivot n u (single n q l) s)) (same (omega arith)) is
true-step n u (product factors inverted) pivot other same is =
    subst (λ o. IfSome o (λ s. IsPivot n u (string_of n factors) s)) (same (omega arith)) is
true-step n u (detector ks) pivot other same is = tt
true-step n u (observable j ks) pivot other same is = tt

pub true-same : (n : ℕ) (coins : ℕ → Bool) (strings others : ℕ → Option (List Letter)) (xs : List Step) (a : Point)
    → ((t : ℕ) → t < all_coins_of xs → strings (a.coin + t) ≡ others (a.coin + t)) → AreTrue n coins strings xs a → AreTrue n coins others xs a
true-same n coins strings others [] a same is = tt
true-same n coins strings others (x ∷ xs) a same is = (
  true-step n (member a.trace) x (strings a.coin) (others a.coin) here is.0,
  true-same n coins strings others xs (next_point n coins x a) later is.1,
)
  where
    none : a.coin + 0 ≡ a.coin
    none = omega arith

    here : 0 < coins_of x → strings a.coin ≡ others a.coin
    here lt = ap strings (sym none) ∙ same 0 (omega arith) ∙ ap others none

    later : (t : ℕ) → t < all_coins_of xs → strings ((a.coin + coins_of x) + t) ≡ others ((a.coin + coins_of x) + t)
    later t lt =
        let e : (a.coin + coins_of x) + t ≡ a.coin + (coins_of x + t) = omega arith in
        ap strings e ∙ same (coins_of x + t) (omega arith) ∙ ap others (sym e)

-- if there are no pivots, nothing is asked of them
pub true-none : (n : ℕ) (coins : ℕ → Bool) (strings : ℕ → Option (List Letter)) (xs : List Step) (a : Point) → ((t : ℕ) → a.coin ≤ t → strings t ≡ None)
    → AreTrue n coins strings xs a
true-none n coins strings [] a none = tt
true-none n coins strings (x ∷ xs) a none = (
  some-none (measured_by n x),
  true-none n coins strings xs (next_point n coins x a) (λ t le. none t (omega (arith, le))),
)
  where
    some-none : (m : Option Signed) → IfSome m (λ m. IfSome (strings a.coin) (λ s. IsPivot n (member a.trace) m s))
    some-none None = tt
    some-none (Some m) = subst (λ o. IfSome o (λ s. IsPivot n (member a.trace) m s)) (sym (none a.coin (omega arith))) tt

-- from one run to another whose groups are the same

pub pivot-same_group : (n : ℕ) (u v : Signed → Bool) (m : Signed) (s : List Letter) → SameGroup n u v → IsPivot n u m s → IsPivot n v m s
pivot-same_group n u v m s same is = record {
  size = is.size;
  negative = is.negative;
  stabilises = sym (same (record { negative = is.negative; letters = s }) is.size) ∙ is.stabilises;
  anticommutes = is.anticommutes;
}

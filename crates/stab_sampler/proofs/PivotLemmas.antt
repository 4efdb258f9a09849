-- Pivots: strings that a run recorded are right for it if there is one for each random outcome, and what is recorded of a coin.
use Rattle.stab_sampler.proofs.Names.{◌≡◌, ℕ, ◌+◌, refl, sym, ◌∙◌, ap, Bool, true, false, List, [], ◌∷◌, ◌++◌, append_assoc, length, take, drop, get_or, arith, Option, Some, None, IfSome, Letter, ◌⊕◌, Signed, member, Step, ones, Point, coins_of, given, next_point, outputs, times_where, IsPivotOf, flip_by, letters_for, IsRightAt, AreRight, pivot_at, IsTrueAt, AreTrue, RecordedPivots, HasAll, lane_pivots, Difference, next_coin, IsMeasuredBy}
use Rattle.stab_frames.proofs.RandomLemmas.{ones-next, pivot-none, pivot-some}
use Rattle.stab_frames.proofs.PivotAtLemmas.{ones-before}
use Rattle.stab_frames.proofs.PropagatedLemmas.{stored-pivot}
use Rattle.stab_run.specs.Runs.{measured_by}

-- what is recorded of the next coin

pub recorded_pivots-some : (strings : List (List Letter)) (free : List Bool) (t number : ℕ) → length strings ≡ ones free → number ≡ ones (take t free) → get_or free t false ≡ true
    → pivot_at strings free t ≡ Some (get_or strings number [])
recorded_pivots-some strings free t number all counted e = pivot-some strings free t number e counted (omega (arith, all, counted, ones-before free t e))

-- if there is no pivot the outcome was deterministic
none-deterministic : (strings : List (List Letter)) (free : List Bool) (t : ℕ) → length strings ≡ ones free → pivot_at strings free t ≡ None → get_or free t false ≡ false
none-deterministic strings free t all none = by_flag (get_or free t false) refl
  where
    by_flag : (b : Bool) → get_or free t false ≡ b → get_or free t false ≡ false
    by_flag false e = e
    by_flag true e =
        let some = sym none ∙ recorded_pivots-some strings free t (ones (take t free)) all refl e in
        cc

-- strings that are true, one for each random outcome, are right pivots

module _ (n : ℕ) (coins : ℕ → Bool) (strings : List (List Letter)) (free : List Bool) (all : length strings ≡ ones free) where
  step-right : (x : Step) (a : Point) → IsTrueAt n (pivot_at strings free) x a → (rest : List Bool) → drop a.coin free ≡ (given n coins x a).free ++ rest
      → IsRightAt n (pivot_at strings free) x a × (drop (a.coin + coins_of x) free ≡ rest)
  step-right x a is rest randomness =
      let here = stored-pivot n coins strings free x a is rest randomness in
      (by_measured (measured_by n x) here.0, here.1)
    where
      pivot : Option (List Letter)
      pivot = pivot_at strings free a.coin

      by_measured : (o : Option Signed) → IfSome o (λ m. (pivot ≡ None → get_or free a.coin false ≡ false) → IsPivotOf n (member a.trace) m pivot)
          → IfSome o (λ m. IsPivotOf n (member a.trace) m pivot)
      by_measured None right = tt
      by_measured (Some m) right = right (none-deterministic strings free a.coin all)

  pub right-from : (xs : List Step) (a : Point) → AreTrue n coins (pivot_at strings free) xs a → (rest : List Bool) → drop a.coin free ≡ (outputs n coins xs a).free ++ rest
      → AreRight n coins (pivot_at strings free) xs a
  right-from [] a is rest randomness = tt
  right-from (x ∷ xs) a is rest randomness =
      let next = next_point n coins x a in
      let here = step-right x a is.0 ((outputs n coins xs next).free ++ rest)
      (randomness ∙ append_assoc (given n coins x a).free (outputs n coins xs next).free rest) in
      (here.0, right-from xs next is.1 rest here.1)

-- the difference of a lane, after a measurement

pub counted-next : (free : List Bool) (number coin : ℕ) (flag : Bool) (more following : ℕ) → number ≡ ones (take coin free) → get_or free coin false ≡ flag
    → more ≡ number + ones (flag ∷ []) → following ≡ coin + 1 → more ≡ ones (take following free)
counted-next free number coin flag more following counted e is next =
    is
    ∙ ap (λ k. k + ones (flag ∷ [])) counted
    ∙ ones-next free coin flag e
    ∙ ap (λ k. ones (take k free)) (sym next)

module _ (recorded_pivots : RecordedPivots) (coins : ℕ → Bool) (distinct : Bool) (old new : Difference) (flips : new.flips ≡ record old.flips { free = old.flips.free ++ false ∷ [] }) where
  -- whose outcome was deterministic
  pub decided-deterministic : get_or recorded_pivots.free.now (next_coin old) false ≡ false → new.letters ≡ old.letters
      → IsMeasuredBy (lane_pivots recorded_pivots coins) distinct distinct old new
  decided-deterministic e letters =
      let none = pivot-none recorded_pivots.strings.now.strings recorded_pivots.free.now (next_coin old) e in
      record {
        outcome = ap (λ pivot. flip_by pivot (coins (next_coin old)) distinct) (sym none);
        letters = letters ∙ ap (λ pivot. letters_for pivot (coins (next_coin old)) distinct old.letters) (sym none);
        flips = flips;
      }

  -- or random
  pub decided-random : (number : ℕ) (flip : Bool) → HasAll recorded_pivots → number ≡ ones (take (next_coin old) recorded_pivots.free.now)
      → get_or recorded_pivots.free.now (next_coin old) false ≡ true → flip ≡ coins (next_coin old)
      → new.letters ≡ times_where (flip ⊕ distinct) (get_or recorded_pivots.strings.now.strings number []) old.letters → IsMeasuredBy (lane_pivots recorded_pivots coins) distinct flip old new
  decided-random number flip all counted e is_coin letters =
      let some = recorded_pivots-some recorded_pivots.strings.now.strings recorded_pivots.free.now (next_coin old) number all counted e in
      record {
        outcome = is_coin ∙ ap (λ pivot. flip_by pivot (coins (next_coin old)) distinct) (sym some);
        letters =
            letters
            ∙ (λ i. times_where (is_coin i ⊕ distinct) (get_or recorded_pivots.strings.now.strings number []) old.letters)
            ∙ ap (λ pivot. letters_for pivot (coins (next_coin old)) distinct old.letters) (sym some);
        flips = flips;
      }

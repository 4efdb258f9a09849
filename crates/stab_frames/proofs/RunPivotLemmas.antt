-- Pivots of a run: there are right ones, made step by step.
use Rattle.stab_frames.proofs.Names.{◌≡◌, ℕ, zero, suc, ◌<◌, ◌≤◌, refl, sym, ap, subst, Bool, true, false, List, [], ◌∷◌, arith, Option, None, IfSome, if◌then◌else◌, All-head, All-tail, IfSome_then, Letter, Signed, single, member, length-one_letter, Step, one, two, controlled, collapse, product, detector, observable, string_of, measured_by, Point, origin, coins_of, next_point, StepFits, length-string_of, IsGood, good-next, IsPivotOf, AreRight, RunsHavePivots}
use Rattle.std.proofs.Common.{◌==◌}
use Rattle.std.specs.Prelude.{All}
use Rattle.stab_frames.proofs.PivotLemmas.{measurement-pivot}

-- pivots are right by what they say from the number of the next coin on
right-beyond : (n : ℕ) (coins : ℕ → Bool) (s t : ℕ → Option (List Letter)) (xs : List Step) (a : Point) → ((k : ℕ) → a.coin ≤ k → s k ≡ t k)
    → AreRight n coins s xs a → AreRight n coins t xs a
right-beyond n coins s t [] a same right = tt
right-beyond n coins s t (x ∷ xs) a same right = (
  IfSome_then (measured_by n x) right.0 (λ m is. subst (IsPivotOf n (member a.trace) m) (same a.coin (omega arith)) is),
  right-beyond n coins s t xs (next_point n coins x a) (λ k le. same k (omega arith)) right.1,
)

-- a pivot of what a step measures, if anything
step-pivot : (n : ℕ) (x : Step) (a : Point) → IsGood n a.trace → (pivot : Option (List Letter)) × IfSome (measured_by n x) (λ m. IsPivotOf n (member a.trace) m pivot)
step-pivot n (one g q) a good = (None, tt)
step-pivot n (two g p q) a good = (None, tt)
step-pivot n (controlled l k q) a good = (None, tt)
step-pivot n (collapse l q recorded inverted resets) a good =
    measurement-pivot n a.trace good.fits good.sound (single n q l) (length-one_letter n q l)
step-pivot n (product factors inverted) a good =
    measurement-pivot n a.trace good.fits good.sound (string_of n factors) (length-string_of n factors)
step-pivot n (detector ks) a good = (None, tt)
step-pivot n (observable j ks) a good = (None, tt)

-- what is said of one coin number put before what is said of others
abbrev pub said_at : {X : Type 0} → ℕ → X → (ℕ → X) → ℕ → X
said_at coin here others k = if k == coin then here else others k

pub said-here : {X : Type 0} (coin : ℕ) (here : X) (others : ℕ → X) → said_at coin here others coin ≡ here
said-here coin here others = ap (λ b. if b then here else others coin) same
  where
    same : (coin == coin) ≡ true
    same = grind arith

pub said-beyond : {X : Type 0} (coin : ℕ) (here : X) (others : ℕ → X) (k : ℕ) → coin < k → others k ≡ said_at coin here others k
said-beyond coin here others k lt = ap (λ b. if b then here else others k) (sym other)
  where
    other : (k == coin) ≡ false
    other = grind arith

-- a step that uses up no coin measures nothing
pub unmeasured : (n : ℕ) (P : Signed → Type 0) (x : Step) → coins_of x ≡ 0 → IfSome (measured_by n x) P
unmeasured n P (one g q) none = tt
unmeasured n P (two g p q) none = tt
unmeasured n P (controlled l k q) none = tt
unmeasured n P (collapse l q recorded inverted resets) none = absurd (omega (arith, none))
unmeasured n P (product factors inverted) none = absurd (omega (arith, none))
unmeasured n P (detector ks) none = tt
unmeasured n P (observable j ks) none = tt

-- pivots of steps, by those of all but the first
pivots-before : (n : ℕ) (coins : ℕ → Bool) (x : Step) (xs : List Step) (a : Point) → IsGood n a.trace
    → (strings : ℕ → Option (List Letter)) × AreRight n coins strings xs (next_point n coins x a)
    → (strings : ℕ → Option (List Letter)) × AreRight n coins strings (x ∷ xs) a
pivots-before n coins x xs a good later = by_coins (coins_of x) refl
  where
    here : (pivot : Option (List Letter)) × IfSome (measured_by n x) (λ m. IsPivotOf n (member a.trace) m pivot)
    here = step-pivot n x a good

    by_coins : (c : ℕ) → coins_of x ≡ c → (strings : ℕ → Option (List Letter)) × AreRight n coins strings (x ∷ xs) a
    by_coins zero e = (later.0, (unmeasured n (λ m. IsPivotOf n (member a.trace) m (later.0 a.coin)) x e, later.1))
    by_coins (suc c) e = (
      said_at a.coin here.0 later.0,
      (
        IfSome_then (measured_by n x) here.1 (λ m is. subst (IsPivotOf n (member a.trace) m) (sym (said-here a.coin here.0 later.0)) is),
        right-beyond n coins later.0 (said_at a.coin here.0 later.0) xs (next_point n coins x a)
            (λ k le. said-beyond a.coin here.0 later.0 k (omega (arith, e, le))) later.1,
      ),
    )

pivots-from : (n : ℕ) (coins : ℕ → Bool) (xs : List Step) (a : Point) → All (StepFits n) xs → IsGood n a.trace
    → (strings : ℕ → Option (List Letter)) × AreRight n coins strings xs a
pivots-from n coins [] a fits good = (λ k. None, tt)
pivots-from n coins (x ∷ xs) a fits good =
    pivots-before n coins x xs a good
    (pivots-from n coins xs (next_point n coins x a) (All-tail (StepFits n) x xs fits) (good-next n coins x a (All-head (StepFits n) x xs fits) good))

pub run-pivots : RunsHavePivots
run-pivots n coins xs fits = pivots-from n coins xs origin fits (record { fits = tt; sound = tt })

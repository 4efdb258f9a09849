-- Targets of one instruction: the steps that they stand for, carried out one after another.
use Rattle.stab_run.proofs.Names.{◌≡◌, ℕ, ◌+◌, ◌<◌, ◌≤◌, refl, sym, ◌∙◌, ap, subst, arith, Bool, List, [], ◌∷◌, ◌++◌, All, length, map, take, get_or, map_more, get_or-map, length-map, take_all, All-get_or, MeasureTarget, Measurement, Step, measured, all_coins_of, StepFits, ProgramState, IsRun, CostsAtMost}
use Rattle.stab_run.proofs.RunLemmas.{IsRun-append, IsRun-same}

-- what the step of the target at a position needs
pub fits-target : {X : Type 0} (n m : ℕ) (step : X → Step) (xs : List X) (i : ℕ) (x : X) → m ≡ n → i < length xs → x ≡ get_or xs i x
    → All (StepFits n) (map step xs) → StepFits m (step x)
fits-target n m step xs i x same lt is fits =
    subst (λ y. StepFits m (step y)) (sym is)
    (subst (StepFits m) (get_or-map step xs i x (step x) lt)
    (subst (λ k. StepFits k (get_or (map step xs) i (step x))) (sym same)
    (All-get_or (StepFits n) (map step xs) i (step x) (subst (λ k. i < k) (sym (length-map xs step)) lt) fits)))

-- a run over the targets before a position, and over that at the position
pub run-target : {X : Type 0} (n m : ℕ) (c d : ℕ → Bool) (step : X → Step) (xs : List X) (i : ℕ) (x : X) (a b new : ProgramState) → i < length xs
    → x ≡ get_or xs i x → m ≡ n → d ≡ c → IsRun n c (map step (take i xs)) a b → IsRun m d (step x ∷ []) b new
    → IsRun n c (map step (take (i + 1) xs)) a new
run-target n m c d step xs i x a b new lt is same_size same_coins f g =
    subst (λ ys. IsRun n c ys a new) (sym more)
    (IsRun-append n c (map step (take i xs)) (step x ∷ []) a b new f (IsRun-same n m c d (step x ∷ []) b new same_size same_coins g))
  where
    more : map step (take (i + 1) xs) ≡ map step (take i xs) ++ step x ∷ []
    more = map_more step xs i x lt ∙ ap (λ y. map step (take i xs) ++ step y ∷ []) (sym is)

-- a run over no fewer targets than there are
pub run-targets : {X : Type 0} (n : ℕ) (c : ℕ → Bool) (step : X → Step) (xs : List X) (i : ℕ) (a b : ProgramState) → length xs ≤ i
    → IsRun n c (map step (take i xs)) a b → IsRun n c (map step xs) a b
run-targets n c step xs i a b all f = subst (λ ys. IsRun n c (map step ys) a b) (take_all i xs all) f

-- each measured target uses up one coin number
pub coins-measured : (m : Measurement) (targets : List MeasureTarget) → all_coins_of (map (measured m) targets) ≡ length targets
coins-measured m [] = refl
coins-measured m (t ∷ targets) = let e = coins-measured m targets in omega (arith, e)

-- what measured targets cost, if each costs one step and one coin at most
pub costs-measured : (m : Measurement) (targets : List MeasureTarget) (applied later asked after : ℕ) → later ≤ applied + length targets → after ≤ asked + length targets
    → applied + after ≤ later + asked → CostsAtMost (map (measured m) targets) applied later asked after
costs-measured m targets applied later asked after most asks each =
    let coins = coins-measured m targets in
    let count = length-map targets (measured m) in
    record { most = omega (arith, most, count); asks = omega (arith, asks, coins); asks_counted = each }

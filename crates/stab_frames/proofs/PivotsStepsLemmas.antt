-- Pivots of steps: what a run pivots of steps one after another, of those of targets, and of steps that measure nothing.
use Rattle.stab_frames.proofs.Names.{◌≡◌, ℕ, ◌+◌, ◌<◌, ◌≤◌, refl, sym, ◌∙◌, subst, Bool, true, false, List, [], ◌∷◌, ◌++◌, All, length, map, take, get_or, arith, Option, Some, None, take_all, All-nil, All-cons, All-append, Letter, Gate, Signed, Axis, ControlledPair, Step, one, controlled_step, detector, measured_by, HasPivot, all_coins_of, ProgramState, IsRun, IsRunWithPivot, IsRun-none, IsRun-append, PivotsState, stored_with, LooksWithin, KeepsPivotsOf, KeepsPivots, PivotsSteps, within-more, one-more}
use Rattle.stab_instructions.specs.declared.control.ControlledPair.TheVariants as pair
use Rattle.stab_frames.proofs.RecorderLemmas.{keeps-unmeasured, keeps-full, keeps-step, keeps-none, keeps-append}

-- no step, one step, and steps one after another

pivots-none : (n : ℕ) (coins : ℕ → Bool) (xs : List Step) (window : ℕ) (stored : PivotsState) (a : ProgramState) → xs ≡ [] → PivotsSteps n coins xs window stored stored a a
pivots-none n coins xs window stored a e = subst (λ ys. PivotsSteps n coins ys window stored stored a a) (sym e) (record {
  run = IsRun-none n coins a;
  has_pivots = keeps-none n coins stored a;
  within = All-nil (LooksWithin window);
})

pivots-step : (n : ℕ) (coins : ℕ → Bool) (x : Step) (window : ℕ) (stored following : PivotsState) (a b : ProgramState) → KeepsPivots n a.stabilised x stored following
    → following.most ≡ stored.most → LooksWithin window x → IsRun n coins (x ∷ []) a b → PivotsSteps n coins (x ∷ []) window stored following a b
pivots-step n coins x window stored following a b has_pivots most near run = record {
  run = run;
  has_pivots = keeps-step n coins x stored following a b has_pivots most run;
  within = All-cons (LooksWithin window) x [] near (All-nil (LooksWithin window));
}

has_pivots-of : (n : ℕ) (member : Signed → Bool) (m : Option Signed) (free : Bool) (letters : List Letter) (stored following : PivotsState)
    → HasPivot n member m free letters → (free ≡ true → following.strings ≡ stored_with stored.most stored.strings (letters ∷ []))
    → (free ≡ false → following.strings ≡ stored.strings) → KeepsPivotsOf n member m stored following
has_pivots-of n member None free letters stored following determined more same = same determined
has_pivots-of n member (Some m) free letters stored following determined more same = (
  λ e. record { string = letters; is_pivot = determined.1 (determined.0 ∙ e); strings = more (determined.0 ∙ e) },
  λ e. same (determined.0 ∙ e),
)

-- the string that a step wrote was put after the others, if a coin decided
pub pivots-pivoted : (n : ℕ) (coins : ℕ → Bool) (x : Step) (window : ℕ) (free : Bool) (letters : List Letter) (stored following : PivotsState) (a b : ProgramState)
    → IsRunWithPivot n coins x a b free letters → (free ≡ true → following.strings ≡ stored_with stored.most stored.strings (letters ∷ []))
    → (free ≡ false → following.strings ≡ stored.strings) → following.most ≡ stored.most → LooksWithin window x → PivotsSteps n coins (x ∷ []) window stored following a b
pivots-pivoted n coins x window free letters stored following a b step more same most near =
    pivots-step n coins x window stored following a b (has_pivots-of n a.stabilised (measured_by n x) free letters stored following step.pivot more same) most near step.run

pivots-append : (n : ℕ) (coins : ℕ → Bool) (xs ys : List Step) (near far : ℕ) (stored mid following : PivotsState) (a b c : ProgramState) → near ≤ far
    → PivotsSteps n coins xs near stored mid a b → PivotsSteps n coins ys far mid following b c → PivotsSteps n coins (xs ++ ys) far stored following a c
pivots-append n coins xs ys near far stored mid following a b c le first then = record {
  run = IsRun-append n coins xs ys a b c first.run then.run;
  has_pivots = keeps-append n coins xs ys stored mid following a b c first.run first.has_pivots then.has_pivots;
  within = All-append (LooksWithin far) xs ys (within-more near far xs le first.within) then.within;
}

pivots-same : (n m : ℕ) (c d : ℕ → Bool) (xs : List Step) (window : ℕ) (stored following : PivotsState) (a b : ProgramState) → m ≡ n → d ≡ c
    → PivotsSteps m d xs window stored following a b → PivotsSteps n c xs window stored following a b
pivots-same n m c d xs window stored following a b same_size same_coins pivots =
    subst (λ k. PivotsSteps k c xs window stored following a b) same_size (subst (λ s. PivotsSteps m s xs window stored following a b) same_coins pivots)

-- steps that are left, after the first of them
pub pivots-steps : (n m : ℕ) (c d : ℕ → Bool) (xs ys rest : List Step) (near far : ℕ) (stored mid following : PivotsState) (a b new : ProgramState) → xs ≡ ys ++ rest
    → m ≡ n → d ≡ c → near ≤ far → PivotsSteps m d ys near stored mid a b → PivotsSteps n c rest far mid following b new → PivotsSteps n c xs far stored following a new
pivots-steps n m c d xs ys rest near far stored mid following a b new e same_size same_coins le first then =
    subst (λ zs. PivotsSteps n c zs far stored following a new) (sym e)
    (pivots-append n c ys rest near far stored mid following a b new le (pivots-same n m c d ys near stored mid a b same_size same_coins first) then)

-- if none of them is left, what was recorded of all
pub pivots-all : {n : ℕ} {coins : ℕ → Bool} {all xs : List Step} {window : ℕ} {first stored : PivotsState} {old now : ProgramState} → xs ≡ []
    → ((far : ℕ) (new : ProgramState) (following : PivotsState) → window ≤ far → PivotsSteps n coins xs far stored following now new → PivotsSteps n coins all far first following old new)
    → PivotsSteps n coins all window first stored old now
pivots-all {n} {coins} {all} {xs} {window} {first} {stored} {old} {now} e advanced = advanced window now stored (omega arith) (pivots-none n coins xs window stored now e)

-- the steps of targets, one more of them, and all

pub pivots-target : {X : Type 0} (n m : ℕ) (c d : ℕ → Bool) (step : X → Step) (xs : List X) (i : ℕ) (x : X) (near far : ℕ) (stored mid following : PivotsState)
    (a b new : ProgramState) → i < length xs → x ≡ get_or xs i x → m ≡ n → d ≡ c → near ≤ far → PivotsSteps n c (map step (take i xs)) near stored mid a b
    → PivotsSteps m d (step x ∷ []) far mid following b new → PivotsSteps n c (map step (take (i + 1) xs)) far stored following a new
pivots-target n m c d step xs i x near far stored mid following a b new lt is same_size same_coins le first then =
    subst (λ ys. PivotsSteps n c ys far stored following a new) (sym (one-more step xs i x lt is))
    (pivots-append n c (map step (take i xs)) (step x ∷ []) near far stored mid following a b new le first
    (pivots-same n m c d (step x ∷ []) far mid following b new same_size same_coins then))

pub pivots-targets : {X : Type 0} (n : ℕ) (c : ℕ → Bool) (step : X → Step) (xs : List X) (i : ℕ) (window : ℕ) (stored following : PivotsState) (a b : ProgramState)
    → length xs ≤ i → PivotsSteps n c (map step (take i xs)) window stored following a b → PivotsSteps n c (map step xs) window stored following a b
pivots-targets n c step xs i window stored following a b all pivots = subst (λ ys. PivotsSteps n c (map step ys) window stored following a b) (take_all i xs all) pivots

-- steps at which no further string is stored
pub pivots-full : (n : ℕ) (coins : ℕ → Bool) (xs : List Step) (window : ℕ) (stored : PivotsState) (a b : ProgramState) → length stored.strings ≡ stored.most
    → All (LooksWithin window) xs → IsRun n coins xs a b → PivotsSteps n coins xs window stored stored a b
pivots-full n coins xs window stored a b full near run = record {
  run = run;
  has_pivots = keeps-full n coins xs stored a b full run;
  within = near;
}

-- steps that measure nothing

pub pivots-unmeasured : (n : ℕ) (coins : ℕ → Bool) (xs : List Step) (window : ℕ) (stored : PivotsState) (a b : ProgramState) → all_coins_of xs ≡ 0
    → All (LooksWithin window) xs → IsRun n coins xs a b → PivotsSteps n coins xs window stored stored a b
pivots-unmeasured n coins xs window stored a b none near run = record {
  run = run;
  has_pivots = keeps-unmeasured n coins xs stored stored a b none refl refl run;
  within = near;
}

pub coins-gates : (g : Gate) (qubits : List ℕ) → all_coins_of (map (one g) qubits) ≡ 0
coins-gates g [] = refl
coins-gates g (q ∷ qubits) = let e = coins-gates g qubits in omega (arith, e)

pub coins-pairs : (axis : Axis) (pairs : List ControlledPair) → all_coins_of (map (controlled_step axis) pairs) ≡ 0
coins-pairs axis [] = refl
coins-pairs axis (pair.Qubits p ∷ pairs) = let e = coins-pairs axis pairs in omega (arith, e)
coins-pairs axis (pair.Record q k ∷ pairs) = let e = coins-pairs axis pairs in omega (arith, e)

pub coins-detectors : (kss : List (List ℕ)) → all_coins_of (map detector kss) ≡ 0
coins-detectors [] = refl
coins-detectors (ks ∷ kss) = let e = coins-detectors kss in omega (arith, e)

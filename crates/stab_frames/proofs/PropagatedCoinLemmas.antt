-- Flipped coins: each frame has coins that are flipped with it, found step by step.
use Rattle.stab_frames.proofs.Names.{◌≡◌, ℕ, zero, suc, ◌+◌, ◌≤◌, refl, sym, ◌∙◌, subst, Bool, false, List, [], ◌∷◌, arith, IfSome, IfSome_then, single, strings_anticommute, Step, one, two, controlled, collapse, product, detector, observable, string_of, measured_by, coins_of, Frame, no_strings, frame_after, AreFlippedPivots, FramesHaveCoins}
use Rattle.stab_frames.proofs.RunPivotLemmas.{said_at, said-here, said-beyond, unmeasured}
use Rattle.stab_frames.proofs.TreatedLemmas.{after-treated}

-- if no pivot is recorded the frame after a step does not depend on the coins
same-after : (n : ℕ) (s t : ℕ → Bool) (x : Step) (coin : ℕ) (f : Frame) → frame_after n (no_strings s) x coin f ≡ frame_after n (no_strings t) x coin f
same-after n s t x coin f = after-treated n (no_strings s) (no_strings t) coin coin f x (λ some anticommuting. (refl, λ g. refl))

-- which coins are flipped from a number on is what is said from there on
conjugated-beyond : (n : ℕ) (s t : ℕ → Bool) (xs : List Step) (coin : ℕ) (f : Frame) → ((k : ℕ) → coin ≤ k → s k ≡ t k)
    → AreFlippedPivots n s xs coin f → AreFlippedPivots n t xs coin f
conjugated-beyond n s t [] coin f same conjugated = tt
conjugated-beyond n s t (x ∷ xs) coin f same conjugated = (
  IfSome_then (measured_by n x) conjugated.0 (λ m is. sym (same coin (omega arith)) ∙ is),
  conjugated-beyond n s t xs (coin + coins_of x) (frame_after n (no_strings t) x coin f) (λ k le. same k (omega arith))
      (subst (AreFlippedPivots n s xs (coin + coins_of x)) (same-after n s t x coin f) conjugated.1),
)

-- whether the coin of what a step measures, if anything, is flipped
step-conjugate : (n : ℕ) (x : Step) (f : Frame) → (conjugate : Bool) × IfSome (measured_by n x) (λ m. conjugate ≡ strings_anticommute f.letters m.letters)
step-conjugate n (one g q) f = (false, tt)
step-conjugate n (two g p q) f = (false, tt)
step-conjugate n (controlled l k q) f = (false, tt)
step-conjugate n (collapse l q recorded inverted resets) f = (strings_anticommute f.letters (single n q l).letters, refl)
step-conjugate n (product factors inverted) f = (strings_anticommute f.letters (string_of n factors).letters, refl)
step-conjugate n (detector ks) f = (false, tt)
step-conjugate n (observable j ks) f = (false, tt)

-- coins for steps, by those for all but the first
coins-before : (n : ℕ) (x : Step) (xs : List Step) (coin : ℕ) (f : Frame)
    → (changes : ℕ → Bool) × AreFlippedPivots n changes xs (coin + coins_of x) (frame_after n (no_strings (λ t. false)) x coin f)
    → (changes : ℕ → Bool) × AreFlippedPivots n changes (x ∷ xs) coin f
coins-before n x xs coin f later = by_coins (coins_of x) refl
  where
    here : (conjugate : Bool) × IfSome (measured_by n x) (λ m. conjugate ≡ strings_anticommute f.letters m.letters)
    here = step-conjugate n x f

    following : (changes : ℕ → Bool) → AreFlippedPivots n changes xs (coin + coins_of x) (frame_after n (no_strings (λ t. false)) x coin f)
        → AreFlippedPivots n changes xs (coin + coins_of x) (frame_after n (no_strings changes) x coin f)
    following changes = subst (AreFlippedPivots n changes xs (coin + coins_of x)) (same-after n (λ t. false) changes x coin f)

    by_coins : (c : ℕ) → coins_of x ≡ c → (changes : ℕ → Bool) × AreFlippedPivots n changes (x ∷ xs) coin f
    by_coins zero e = (later.0, (unmeasured n (λ m. later.0 coin ≡ strings_anticommute f.letters m.letters) x e, following later.0 later.1))
    by_coins (suc c) e = (
      said_at coin here.0 later.0,
      (
        IfSome_then (measured_by n x) here.1 (λ m is. said-here coin here.0 later.0 ∙ is),
        following (said_at coin here.0 later.0)
            (conjugated-beyond n later.0 (said_at coin here.0 later.0) xs (coin + coins_of x) (frame_after n (no_strings (λ t. false)) x coin f)
            (λ k le. said-beyond coin here.0 later.0 k (omega (arith, e, le))) later.1),
      ),
    )

pub frame-coins : FramesHaveCoins
frame-coins n [] coin f = (λ t. false, tt)
frame-coins n (x ∷ xs) coin f = coins-before n x xs coin f (frame-coins n xs (coin + coins_of x) (frame_after n (no_strings (λ t. false)) x coin f))

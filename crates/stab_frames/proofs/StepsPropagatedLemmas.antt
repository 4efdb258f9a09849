-- Steps walked: a frame's way over the first of some steps, over some more, and what it comes to.
use Rattle.stab_frames.proofs.Names.{◌≡◌, ℕ, ◌+◌, ◌-◌, ◌<◌, ◌≤◌, refl, sym, ◌∙◌, ap, subst, Bool, false, List, [], ◌∷◌, ◌++◌, length, take, drop, All, arith, take-add, take-append_seam, drop-append_seam, take-length, take-append-drop, take-append-le, length-drop, length-append, drop-drop, All-drop, All-take, Letter, Step, Point, coins_of, all_coins_of, point_after, outputs, StepFits, outputs-append, coins-append, same_coins, AreEnough, pivot_at, AreTrue, PropagationState, frame_at, PropagatesOver, never, AreDrawn, AreDetermined, GoesOver}
use Rattle.stab_frames.proofs.TrueLemmas.{true-front}
use Rattle.stab_frames.proofs.PropagatedLemmas.{determined-enough}
use Rattle.stab_frames.proofs.GoesOverLemmas.{goes-append}

-- the first of the steps that are left

pub left-over : (k : ℕ) (xs ys rest : List Step) → drop k xs ≡ ys ++ rest → 0 < length ys → k + length ys ≤ length xs
left-over k xs ys rest e some = omega (arith, length-drop k xs, ap length e, length-append ys rest)

pub take-over : (k j : ℕ) (xs ys rest : List Step) → drop k xs ≡ ys ++ rest → j ≤ length ys → take (k + j) xs ≡ take k xs ++ take j ys
take-over k j xs ys rest e le = take-add k j xs ∙ ap (λ zs. take k xs ++ take j zs) e ∙ ap (λ zs. take k xs ++ zs) (take-append-le j ys rest le)

pub drop-over : (k : ℕ) (xs ys rest : List Step) → drop k xs ≡ ys ++ rest → rest ≡ drop (k + length ys) xs
drop-over k xs ys rest e = sym (sym (drop-drop (length ys) k xs) ∙ ap (drop (length ys)) e ∙ drop-append_seam ys rest)

pub left-none : (k : ℕ) (xs : List Step) → drop k xs ≡ [] → length xs ≤ k
left-none k xs e = omega (arith, length-drop k xs, ap length e)

pub fits-over : (n m k : ℕ) (xs ys rest : List Step) → drop k xs ≡ ys ++ rest → m ≡ n → All (StepFits n) xs → All (StepFits m) ys
fits-over n m k xs ys rest e same fits =
    subst (λ j. All (StepFits j) ys) (sym same)
    (subst (All (StepFits n)) (take-append_seam ys rest) (All-take (StepFits n) (length ys) (ys ++ rest) (subst (All (StepFits n)) e (All-drop (StepFits n) k xs fits))))

pub take-next : (k : ℕ) (xs ys rest : List Step) → drop k xs ≡ ys ++ rest → take (k + length ys) xs ≡ take k xs ++ ys
take-next k xs ys rest e = take-over k (length ys) xs ys rest e (omega arith) ∙ ap (λ zs. take k xs ++ zs) (take-length ys)

pub coins-within : (k most : ℕ) (xs ys rest : List Step) → drop k xs ≡ ys ++ rest → k + length ys ≤ most
    → all_coins_of (take k xs) + all_coins_of ys ≤ all_coins_of (take most xs)
coins-within k most xs ys rest e le =
    let whole : most ≡ (k + length ys) + (most - (k + length ys)) = omega (arith, le) in
    let parts = ap (λ j. all_coins_of (take j xs)) whole ∙ ap all_coins_of (take-add (k + length ys) (most - (k + length ys)) xs)
    ∙ coins-append (take (k + length ys) xs) (take (most - (k + length ys)) (drop (k + length ys) xs)) in
    let front = ap all_coins_of (take-next k xs ys rest e) ∙ coins-append (take k xs) ys in
    omega (arith, parts, front)

pub coins-less : (k most : ℕ) (xs : List Step) → k ≤ most → all_coins_of (take k xs) ≤ all_coins_of (take most xs)
coins-less k most xs le = omega (arith, coins-within k most xs [] (drop k xs) refl (omega (arith, le)))

-- a propagation over some of the next steps

pub goes-over : (n : ℕ) (strings : List (List Letter)) (free : List Bool) (draw : ℕ → Bool) (k j : ℕ) (xs ys rest : List Step) (old now new : PropagationState)
    → drop k xs ≡ ys ++ rest → j ≤ length ys → GoesOver n strings free draw (take k xs) old now → GoesOver n strings free draw (take j ys) now new
    → GoesOver n strings free draw (take (k + j) xs) old new
goes-over n strings free draw k j xs ys rest old now new e le front next =
    subst (λ zs. GoesOver n strings free draw zs old new) (sym (take-over k j xs ys rest e le))
    (goes-append n strings free draw (take k xs) (take j ys) old now new front next)

-- what it comes to, if no coin differs

never-drawn : (free : List Bool) (xs : List Step) (coin : ℕ) → AreDrawn free never (λ t. false) xs coin
never-drawn free [] coin = tt
never-drawn free (x ∷ xs) coin = (λ some is. refl, never-drawn free xs (coin + coins_of x))

pub propagation-same : (n : ℕ) (strings : List (List Letter)) (free : List Bool) (xs : List Step) (old new : PropagationState) → GoesOver n strings free never xs old new
    → PropagatesOver n (pivot_at strings free) xs old new
propagation-same n strings free xs old new goes = goes.over (λ t. false) (never-drawn free xs old.coin)

pub propagation-enough : (n : ℕ) (coins : ℕ → Bool) (strings : List (List Letter)) (free : List Bool) (k base : ℕ) (xs : List Step) (old new : PropagationState) (a : Point)
    → GoesOver n strings free never (take k xs) old new → a.coin ≡ old.coin → AreTrue n coins (pivot_at strings free) xs a → (outputs n coins xs a).free ≡ drop old.coin free
    → AreEnough n coins (same_coins (pivot_at strings free)) (take k xs) (frame_at base old) a
propagation-enough n coins strings free k base xs old new a goes same is randomness =
    determined-enough n coins strings free (λ t. false) (take k xs) (frame_at base old) a
    (subst (λ c. AreDetermined n strings free (λ t. false) (take k xs) c (frame_at base old)) (sym same)
    (goes.determined (λ t. false) (never-drawn free (take k xs) old.coin) base))
    (true-front n coins (pivot_at strings free) (take k xs) (drop k xs) a (subst (λ ys. AreTrue n coins (pivot_at strings free) ys a) (sym (take-append-drop k xs)) is))
    (outputs n coins (drop k xs) (point_after n coins (take k xs) a)).free
    (ap (λ c. drop c free) same
    ∙ sym randomness
    ∙ ap (λ ys. (outputs n coins ys a).free) (sym (take-append-drop k xs))
    ∙ ap (λ o. o.free) (outputs-append n coins (take k xs) (drop k xs) a))

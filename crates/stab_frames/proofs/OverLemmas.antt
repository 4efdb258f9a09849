-- Over: frames, what they flip and their pivots, over steps one after another.
use Rattle.stab_frames.proofs.Names.{◌≡◌, ℕ, ◌+◌, sym, ◌∙◌, ap, Bool, List, [], ◌∷◌, ◌++◌, arith, Step, Point, joined, coins_of, all_coins_of, next_point, point_after, joined-assoc, Frame, RunPivots, frame_after, frame_over, flips_given, flips_over, AreEnough}

no-more : (coin : ℕ) → coin + 0 ≡ coin
no-more coin = omega arith

more : (coin a b : ℕ) → (coin + a) + b ≡ coin + (a + b)
more coin a b = omega arith

-- frames over steps one after another

pub frame-append : (n : ℕ) (pivots : RunPivots) (xs ys : List Step) (coin : ℕ) (f : Frame)
    → frame_over n pivots (xs ++ ys) coin f ≡ frame_over n pivots ys (coin + all_coins_of xs) (frame_over n pivots xs coin f)
frame-append n pivots [] ys coin f = ap (λ c. frame_over n pivots ys c f) (sym (no-more coin))
frame-append n pivots (x ∷ xs) ys coin f =
    frame-append n pivots xs ys (coin + coins_of x) (frame_after n pivots x coin f)
    ∙ ap (λ c. frame_over n pivots ys c (frame_over n pivots xs (coin + coins_of x) (frame_after n pivots x coin f))) (more coin (coins_of x) (all_coins_of xs))

pub flips-append : (n : ℕ) (pivots : RunPivots) (xs ys : List Step) (coin : ℕ) (f : Frame)
    → flips_over n pivots (xs ++ ys) coin f
    ≡ joined (flips_over n pivots xs coin f) (flips_over n pivots ys (coin + all_coins_of xs) (frame_over n pivots xs coin f))
flips-append n pivots [] ys coin f = ap (λ c. flips_over n pivots ys c f) (sym (no-more coin))
flips-append n pivots (x ∷ xs) ys coin f =
    let g = frame_after n pivots x coin f in
    ap (joined (flips_given n pivots x coin f))
    (flips-append n pivots xs ys (coin + coins_of x) g
    ∙ ap (λ c. joined (flips_over n pivots xs (coin + coins_of x) g) (flips_over n pivots ys c (frame_over n pivots xs (coin + coins_of x) g))) (more coin (coins_of x) (all_coins_of xs)))
    ∙ sym (joined-assoc (flips_given n pivots x coin f) (flips_over n pivots xs (coin + coins_of x) g)
    (flips_over n pivots ys (coin + (coins_of x + all_coins_of xs)) (frame_over n pivots xs (coin + coins_of x) g)))

pub enough-append : (n : ℕ) (coins : ℕ → Bool) (pivots : RunPivots) (xs ys : List Step) (f : Frame) (a : Point) → AreEnough n coins pivots xs f a
    → AreEnough n coins pivots ys (frame_over n pivots xs a.coin f) (point_after n coins xs a) → AreEnough n coins pivots (xs ++ ys) f a
enough-append n coins pivots [] ys f a front rest = rest
enough-append n coins pivots (x ∷ xs) ys f a front rest =
    (front.0, enough-append n coins pivots xs ys (frame_after n pivots x a.coin f) (next_point n coins x a) front.1 rest)

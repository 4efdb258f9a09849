-- Conjugated steps: if two points differ by a frame, and the frame went over the steps from the one with the coins of the other, what they give at
-- the other is what they gave at the one, flipped, and where they end differs by the frame.
use Rattle.stab_recording.proofs.Names.{◌≡◌, ℕ, ◌+◌, sym, ◌∙◌, subst, Bool, false, List, Option, take, drop, All, arith, Letter, Step, looks_too_far, Point, RunOutput, point_after, outputs, all_coins_of, StepFits, with_coin, flipped_output, frame_over, flips_over, AreTrue, RunPivots, AreEnough, PropagationState, frame_at, PropagatesWith, DiffersBack, ArePropagatedOver, coins_from, pivots_between, PropagatesToOthers, come-conjugated, gone-over-seen, flips_since}
use Rattle.stab_recording.proofs.FlippedLemmas.{flips-random, since-joined}

-- coins from the first on are all
pub all-coins : (d : ℕ) (coins : ℕ → Bool) → d ≡ 0 → coins_from d coins ≡ coins
all-coins d coins first = λ i t. coins (from t i)
  where
    from : (t : ℕ) → d + t ≡ t
    from t = omega (arith, first)

module _ (n window base da db : ℕ) (coins : ℕ → Bool) (strings : ℕ → Option (List Letter)) (randomness bits : List Bool) (xs : List Step) (a b : Point) (w v : PropagationState)
    (fits : All (StepFits n) xs) (near : looks_too_far window xs ≡ false) (from_a : da + w.coin ≡ a.coin) (from_b : db + w.coin ≡ b.coin)
    (differs : DiffersBack n window (frame_at base w) a b) (are_true : AreTrue n (coins_from da coins) strings xs (with_coin w.coin a))
    (randomness_is : (outputs n coins xs a).free ≡ take (all_coins_of xs) (drop w.coin randomness)) (bits_are : (outputs n coins xs a).outcomes ≡ bits)
    (propagated : PropagatesToOthers n strings randomness bits (coins_from db coins) xs w v) where
  abbrev pivots : RunPivots
  pivots = pivots_between strings (coins_from da coins) (coins_from db coins)

  abbrev frame_flips : RunOutput
  frame_flips = flips_over n pivots xs w.coin (frame_at base w)

  went : PropagatesWith n pivots xs w v × ((k : ℕ) → AreEnough n (coins_from da coins) pivots xs (frame_at k w) (with_coin w.coin differs.seen))
  went =
      propagated (coins_from da coins) (with_coin w.coin differs.seen)
      (gone-over-seen n window w.coin da coins strings randomness bits xs a differs.seen near from_a differs.agree are_true randomness_is bits_are)

  come : (outputs n coins xs b ≡ flipped_output (outputs n coins xs a) frame_flips)
      × DiffersBack n window (frame_over n pivots xs w.coin (frame_at base w)) (point_after n coins xs a) (point_after n coins xs b)
      × ArePropagatedOver n coins xs a b
  come = come-conjugated n window w.coin da db coins strings xs (frame_at base w) a b fits near from_a from_b differs (went.1 base)

  pub comes-over : (outputs n coins xs b ≡ flipped_output (outputs n coins xs a) (flips_since w v))
      × DiffersBack n window (frame_at base v) (point_after n coins xs a) (point_after n coins xs b)
      × ArePropagatedOver n coins xs a b
      × (v.coin ≡ w.coin + all_coins_of xs)
  comes-over = (
    come.0
        ∙ since-joined (outputs n coins xs a) frame_flips w v (all_coins_of xs) (flips-random n pivots xs w.coin (frame_at base w)) (went.0.flips base),
    subst (λ f. DiffersBack n window f (point_after n coins xs a) (point_after n coins xs b)) (sym (went.0.frame base)) come.1,
    come.2,
    went.0.coin,
  )

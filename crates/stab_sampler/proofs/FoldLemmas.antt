-- Folding: frames that steps can't distinguish flip the same, and so do lanes that are again as they were, if nothing is drawn.
use Rattle.stab_sampler.proofs.Names.{◌≡◌, ℕ, zero, suc, ◌+◌, ◌*◌, ◌<◌, ◌≤◌, refl, sym, ◌∙◌, ap, subst, false, List, [], ◌∷◌, ◌++◌, append-nil, append_assoc, length, nat_lt, arith, None, list_any, length-append, length-replicate, Step, rounds, one, makes, lookbacks, looks_too_far, looked_up, RunOutput, nothing, joined, coins_of, all_coins_of, output_copies, joined-nothing, joined-assoc, looked_up-more, or-left, or-right, Frame, RunPivots, letters_after, flips_given, frame_after, frame_over, flips_over, Difference, frame_of_difference, next_coin, DiffersAlong, without_outcomes}
use Rattle.stab_sampler.proofs.FollowLemmas.{follows-none, follows-append}
use Rattle.stab_recording.proofs.FlippedLemmas.{flips-random}
use Rattle.stab_frames.proofs.AlikeLemmas.{AreAlike, letters-seen, given-seen, given-makes}
use Rattle.stab_frames.proofs.TreatedLemmas.{IsTreatedAlike, letters-treated, given-treated}
use Rattle.stab_frames.specs.FrameSteps.{flip_by, letters_for}

-- no pivot is recorded of this many outcomes from a coin number on
abbrev pub HasNone : RunPivots → (coin count : ℕ) → Type 0
HasNone pivots coin count = (t : ℕ) → t < count → pivots.strings (coin + t) ≡ None

-- what a step makes of such frames, whatever the numbers of its coins

module _ (n m : ℕ) (pivots : RunPivots) (c d : ℕ) (f g : Frame) (same : AreAlike m f g) where
  treated : pivots.strings (c + 0) ≡ None → pivots.strings (d + 0) ≡ None → IsTreatedAlike pivots pivots c d
  treated here there anticommuting = (
    ap (λ o. flip_by o (pivots.changes c) anticommuting) (at c here) ∙ sym (ap (λ o. flip_by o (pivots.changes d) anticommuting) (at d there)),
    λ h. ap (λ o. letters_for o (pivots.changes c) anticommuting h) (at c here) ∙ sym (ap (λ o. letters_for o (pivots.changes d) anticommuting h) (at d there)),
  )
    where
      at : (t : ℕ) → pivots.strings (t + 0) ≡ None → pivots.strings t ≡ None
      at t none = ap pivots.strings {x = t} {y = t + 0} (omega arith) ∙ none

  both : (x : Step) → HasNone pivots c (coins_of x) → HasNone pivots d (coins_of x) → coins_of x ≡ 1 → IsTreatedAlike pivots pivots c d
  both x here there some = treated (here 0 (omega (arith, some))) (there 0 (omega (arith, some)))

  letters-alike : (x : Step) → list_any (nat_lt m) (lookbacks x) ≡ false → HasNone pivots c (coins_of x) → HasNone pivots d (coins_of x)
      → letters_after n pivots x c f ≡ letters_after n pivots x d g
  letters-alike x near here there = letters-treated n pivots pivots c d f x (both x here there) ∙ letters-seen n m pivots d f g same x near

  given-alike : (x : Step) → list_any (nat_lt m) (lookbacks x) ≡ false → HasNone pivots c (coins_of x) → HasNone pivots d (coins_of x)
      → flips_given n pivots x c f ≡ flips_given n pivots x d g
  given-alike x near here there = given-treated n pivots pivots c d f x (both x here there) ∙ given-seen n m pivots d f g same x near

-- and steps
pub over-alike : (n m : ℕ) (pivots : RunPivots) (xs : List Step) (c d : ℕ) (f g : Frame) → looks_too_far m xs ≡ false → AreAlike m f g
    → HasNone pivots c (all_coins_of xs) → HasNone pivots d (all_coins_of xs)
    → (flips_over n pivots xs c f ≡ flips_over n pivots xs d g) × ((frame_over n pivots xs c f).letters ≡ (frame_over n pivots xs d g).letters)
over-alike n m pivots [] c d f g near same here there = (refl, same.letters)
over-alike n m pivots (x ∷ xs) c d f g near same here there =
    let later =
    over-alike n (m + makes x) pivots xs (c + coins_of x) (d + coins_of x) (frame_after n pivots x c f) (frame_after n pivots x d g)
    (or-right (list_any (nat_lt m) (lookbacks x)) (looks_too_far (m + makes x) xs) near) next (following c here) (following d there) in
    ((λ i. joined (given i) (later.0 i)), later.1)
  where
    first : list_any (nat_lt m) (lookbacks x) ≡ false
    first = or-left (list_any (nat_lt m) (lookbacks x)) (looks_too_far (m + makes x) xs) near

    before : (b : ℕ) → HasNone pivots b (coins_of x + all_coins_of xs) → HasNone pivots b (coins_of x)
    before b none t lt = none t (omega (arith, lt))

    following : (b : ℕ) → HasNone pivots b (coins_of x + all_coins_of xs) → HasNone pivots (b + coins_of x) (all_coins_of xs)
    following b none t lt = ap pivots.strings {x = (b + coins_of x) + t} {y = b + (coins_of x + t)} (omega arith) ∙ none (coins_of x + t) (omega (arith, lt))

    given : flips_given n pivots x c f ≡ flips_given n pivots x d g
    given = given-alike n m pivots c d f g same x first (before c here) (before d there)

    next : AreAlike (m + makes x) (frame_after n pivots x c f) (frame_after n pivots x d g)
    next = record {
      letters = letters-alike n m pivots c d f g same x first (before c here) (before d there);
      flips = λ k le.
          ap (λ (o : RunOutput). looked_up (f.flips ++ o.records) k) given
          ∙ looked_up-more m f.flips g.flips (flips_given n pivots x d g).records same.flips k (subst (λ j. k ≤ m + j) (sym (given-makes n pivots x d g)) le);
    }

-- the flips of a frame are put after those before
frame-flips : (n : ℕ) (pivots : RunPivots) (xs : List Step) (c : ℕ) (f : Frame) → (frame_over n pivots xs c f).flips ≡ f.flips ++ (flips_over n pivots xs c f).records
frame-flips n pivots [] c f = sym (append-nil f.flips)
frame-flips n pivots (x ∷ xs) c f =
    frame-flips n pivots xs (c + coins_of x) (frame_after n pivots x c f)
    ∙ append_assoc f.flips (flips_given n pivots x c f).records (flips_over n pivots xs (c + coins_of x) (frame_after n pivots x c f)).records

-- a lane went over steps, and is again as it was before them, as far back as these look

module _ (n m : ℕ) (pivots : RunPivots) (xs : List Step) (a b : Difference) (near : looks_too_far m xs ≡ false) (advanced : DiffersAlong n pivots xs a b)
    (same : a.letters ≡ b.letters) (back : (k : ℕ) → k ≤ m → looked_up a.flips.records k ≡ looked_up b.flips.records k)
    (none : HasNone pivots (next_coin a) (all_coins_of xs)) where
  abbrev flipped : RunOutput
  flipped = without_outcomes (flips_over n pivots xs (next_coin a) (frame_of_difference a))

  -- what a lane that is as this one becomes, if it flips the same this often
  abbrev pub again : ℕ → Difference → Difference
  again k d = record { letters = d.letters; flips = joined d.flips (output_copies k flipped) }

  abbrev once : Difference → Difference
  once d = record { letters = d.letters; flips = joined d.flips flipped }

  coins-once : (d : Difference) → next_coin (once d) ≡ next_coin d + all_coins_of xs
  coins-once d =
      length-append d.flips.free flipped.free
      ∙ ap (λ k. next_coin d + k) (ap length (flips-random n pivots xs (next_coin a) (frame_of_difference a)) ∙ length-replicate (all_coins_of xs) false)

  module _ (d : Difference) (alike : AreAlike m (frame_of_difference d) (frame_of_difference a)) where
    over : HasNone pivots (next_coin d) (all_coins_of xs)
        → (without_outcomes (flips_over n pivots xs (next_coin d) (frame_of_difference d)) ≡ flipped)
        × ((frame_over n pivots xs (next_coin d) (frame_of_difference d)).letters ≡ (frame_over n pivots xs (next_coin a) (frame_of_difference a)).letters)
    over here =
        let all = over-alike n m pivots xs (next_coin d) (next_coin a) (frame_of_difference d) (frame_of_difference a) near alike here none in
        (ap without_outcomes all.0, all.1)

    follows-once : HasNone pivots (next_coin d) (all_coins_of xs) → DiffersAlong n pivots xs d (once d)
    follows-once here = record {
      frame = λ i. record {
        letters = (alike.letters ∙ same ∙ ap (λ (f : Frame). f.letters) advanced.frame ∙ sym (over here).1) i;
        flips =
            (ap (λ (o : RunOutput). d.flips.records ++ o.records) (sym (over here).0)
            ∙ sym (frame-flips n pivots xs (next_coin d) (frame_of_difference d))) i;
      };
      flips = ap (joined d.flips) (sym (over here).0);
      coin = coins-once d;
    }

    alike-once : AreAlike m (frame_of_difference (once d)) (frame_of_difference a)
    alike-once = record {
      letters = alike.letters;
      flips = λ k le.
          looked_up-more m d.flips.records a.flips.records flipped.records alike.flips k (omega (arith, le))
          ∙ ap (λ (o : RunOutput). looked_up o.records k) (sym advanced.flips)
          ∙ sym (back k le);
    }

  pub follows-again : (k : ℕ) (d : Difference) → AreAlike m (frame_of_difference d) (frame_of_difference a) → HasNone pivots (next_coin d) (k * all_coins_of xs)
      → DiffersAlong n pivots (rounds k xs) d (again k d)
  follows-again zero d alike here =
      subst (DiffersAlong n pivots [] d) (λ i. record { letters = d.letters; flips = sym (joined-nothing d.flips) i }) (follows-none n pivots d)
  follows-again (suc k) d alike here =
      subst (DiffersAlong n pivots (xs ++ rounds k xs) d) (λ i. record { letters = d.letters; flips = joined-assoc d.flips flipped (output_copies k flipped) i })
      (follows-append n pivots xs (rounds k xs) d (once d) (again k (once d))
      (follows-once d alike (λ t lt. here t (less t lt)))
      (follows-again k (once d) (alike-once d alike) (λ t lt. ap pivots.strings (position t) ∙ here (all_coins_of xs + t) (more t lt))))
    where
      one-more : (k c : ℕ) → c + k * c ≡ suc k * c
      one-more k c = omega arith

      less : (t : ℕ) → t < all_coins_of xs → t < suc k * all_coins_of xs
      less t lt = let whole = one-more k (all_coins_of xs) in omega (arith, lt, whole)

      more : (t : ℕ) → t < k * all_coins_of xs → all_coins_of xs + t < suc k * all_coins_of xs
      more t lt = let whole = one-more k (all_coins_of xs) in omega (arith, lt, whole)

      position : (t : ℕ) → next_coin (once d) + t ≡ next_coin d + (all_coins_of xs + t)
      position t = omega (arith, coins-once d)

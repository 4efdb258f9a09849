-- Fixed outcomes: if no pivot is known, a frame goes the same way whichever coins differ and whatever their numbers.
use Rattle.stab_ways.proofs.Names.{◌≡◌, ℕ, ◌+◌, refl, sym, ◌∙◌, ap, List, [], ◌∷◌, ◌++◌, None, Step, joined, Frame, RunPivots, frame_after, flips_given, frame_over, flips_over, joined-assoc, by_letters, way_after, way_over, way_flips}
use Rattle.stab_frames.proofs.TreatedLemmas.{IsTreatedAlike, after-treated, given-treated, over-treated, flips-treated}
use Rattle.stab_frames.specs.FrameSteps.{flip_by, letters_for}

module _ (n : ℕ) (pivots : RunPivots) (none : (t : ℕ) → pivots.strings t ≡ None) where
  fixed : (c d : ℕ) → IsTreatedAlike pivots by_letters c d
  fixed c d anticommuting = (ap (λ o. flip_by o (pivots.changes c) anticommuting) (none c), λ f. ap (λ o. letters_for o (pivots.changes c) anticommuting f) (none c))

  pub fixed-after : (x : Step) (c d : ℕ) (f : Frame) → frame_after n pivots x c f ≡ frame_after n by_letters x d f
  fixed-after x c d f = after-treated n pivots by_letters c d f x (λ some. fixed c d)

  pub fixed-given : (x : Step) (c d : ℕ) (f : Frame) → flips_given n pivots x c f ≡ flips_given n by_letters x d f
  fixed-given x c d f = given-treated n pivots by_letters c d f x (λ some. fixed c d)

  pub fixed-frame : (xs : List Step) (c d : ℕ) (f : Frame) → frame_over n pivots xs c f ≡ frame_over n by_letters xs d f
  fixed-frame xs c d f = over-treated n pivots by_letters xs c d f (λ t lt. fixed (c + t) (d + t))

  pub fixed-flips : (xs : List Step) (c d : ℕ) (f : Frame) → flips_over n pivots xs c f ≡ flips_over n by_letters xs d f
  fixed-flips xs c d f = flips-treated n pivots by_letters xs c d f (λ t lt. fixed (c + t) (d + t))

-- the way of a string over steps one after another

pub way-more : (n : ℕ) (xs ys : List Step) (f : Frame) → way_over n (xs ++ ys) f ≡ way_over n ys (way_over n xs f)
way-more n [] ys f = refl
way-more n (x ∷ xs) ys f = way-more n xs ys (way_after n x f)

pub flips-more : (n : ℕ) (xs ys : List Step) (f : Frame) → way_flips n (xs ++ ys) f ≡ joined (way_flips n xs f) (way_flips n ys (way_over n xs f))
flips-more n [] ys f = refl
flips-more n (x ∷ xs) ys f =
    ap (joined (flips_given n by_letters x 0 f)) (flips-more n xs ys (way_after n x f))
    ∙ sym (joined-assoc (flips_given n by_letters x 0 f) (way_flips n xs (way_after n x f)) (way_flips n ys (way_over n xs (way_after n x f))))

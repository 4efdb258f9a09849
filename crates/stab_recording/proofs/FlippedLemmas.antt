-- Flipped outputs: what a frame flipped of what steps gave that it went over.
use Rattle.stab_recording.proofs.Names.{◌≡◌, ℕ, zero, suc, ◌+◌, refl, sym, ◌∙◌, ap, Bool, false, List, [], ◌∷◌, length, drop, replicate, arith, drop_at, Step, one, two, controlled, collapse, product, detector, observable, RunOutput, joined, all_coins_of, flipped, flipped_additions, flipped_output, Frame, frame_after, flips_over, RunPivots, PropagationState, flipped-empty, flips_since}

-- bits that are not flipped
pub flipped-zeros : (bits : List Bool) (m : ℕ) → flipped bits (replicate m false) ≡ bits
flipped-zeros [] m = refl
flipped-zeros (bit ∷ bits) zero = refl
flipped-zeros (bit ∷ bits) (suc m) = ap (λ more. bit ∷ more) (flipped-zeros bits m)

-- no flag is flipped
pub flips-random : (n : ℕ) (pivots : RunPivots) (xs : List Step) (coin : ℕ) (f : Frame) → (flips_over n pivots xs coin f).free ≡ replicate (all_coins_of xs) false
flips-random n pivots [] coin f = refl
flips-random n pivots (one g q ∷ xs) coin f = flips-random n pivots xs (coin + 0) (frame_after n pivots (one g q) coin f) ∙ ap (λ m. replicate m false) (omega arith)
flips-random n pivots (two g x y ∷ xs) coin f = flips-random n pivots xs (coin + 0) (frame_after n pivots (two g x y) coin f) ∙ ap (λ m. replicate m false) (omega arith)
flips-random n pivots (controlled l j q ∷ xs) coin f = flips-random n pivots xs (coin + 0) (frame_after n pivots (controlled l j q) coin f) ∙ ap (λ m. replicate m false) (omega arith)
flips-random n pivots (collapse l q recorded inverted resets ∷ xs) coin f =
    ap (λ bits. false ∷ bits) (flips-random n pivots xs (coin + 1) (frame_after n pivots (collapse l q recorded inverted resets) coin f))
    ∙ ap (λ m. replicate m false) {x = suc (all_coins_of xs)} (omega arith)
flips-random n pivots (product factors inverted ∷ xs) coin f =
    ap (λ bits. false ∷ bits) (flips-random n pivots xs (coin + 1) (frame_after n pivots (product factors inverted) coin f))
    ∙ ap (λ m. replicate m false) {x = suc (all_coins_of xs)} (omega arith)
flips-random n pivots (detector js ∷ xs) coin f = flips-random n pivots xs (coin + 0) (frame_after n pivots (detector js) coin f) ∙ ap (λ m. replicate m false) (omega arith)
flips-random n pivots (observable j js ∷ xs) coin f = flips-random n pivots xs (coin + 0) (frame_after n pivots (observable j js) coin f) ∙ ap (λ m. replicate m false) (omega arith)

-- what was flipped since is what the steps between flipped
pub since-joined : (o more : RunOutput) (old new : PropagationState) (m : ℕ) → more.free ≡ replicate m false → new.flips ≡ joined old.flips more
    → flipped_output o more ≡ flipped_output o (flips_since old new)
since-joined o more old new m zeros is = λ i. record {
  records = flipped o.records (sym (ap (λ (f : RunOutput). drop (length old.flips.records) f.records) is ∙ drop_at old.flips.records more.records (length old.flips.records) refl) i);
  free = (ap (flipped o.free) zeros ∙ flipped-zeros o.free m ∙ sym (flipped-empty o.free)) i;
  outcomes = flipped o.outcomes (sym (ap (λ (f : RunOutput). drop (length old.flips.outcomes) f.outcomes) is ∙ drop_at old.flips.outcomes more.outcomes (length old.flips.outcomes) refl) i);
  detectors = flipped o.detectors (sym (ap (λ (f : RunOutput). drop (length old.flips.detectors) f.detectors) is ∙ drop_at old.flips.detectors more.detectors (length old.flips.detectors) refl) i);
  additions = flipped_additions o.additions (sym (ap (λ (f : RunOutput). drop (length old.flips.additions) f.additions) is ∙ drop_at old.flips.additions more.additions (length old.flips.additions) refl) i);
}

-- Alike frames: with frames that a step can't distinguish it flips the same, and they become the same.
use Rattle.stab_frames.proofs.Names.{◌≡◌, ℕ, ◌≤◌, refl, ap, true, false, ◌&&◌, List, [], ◌∷◌, length, nat_lt, arith, list_any, or-left, single, image, image_pair, Step, one, two, controlled, collapse, product, detector, observable, makes, lookbacks, looked_up, flip_of, string_of, RunOutput, nothing, plus, Frame, times_where, RunPivots, one_flipped, flips_outcome, letters_measured, letters_after, flips_given}
use Rattle.stab_run.proofs.LookbackLemmas.{parity-same}

-- two frames have the same letters, and flip the same as far back as rec[-m]
pub record AreAlike (m : ℕ) (f g : Frame) : Type 0 where
  pub letters : f.letters ≡ g.letters
  pub flips : (k : ℕ) → k ≤ m → looked_up f.flips k ≡ looked_up g.flips k

-- what a step makes of them, and flips with them

module _ (n m : ℕ) (pivots : RunPivots) (d : ℕ) (f g : Frame) (same : AreAlike m f g) where
  pub letters-seen : (x : Step) → list_any (nat_lt m) (lookbacks x) ≡ false → letters_after n pivots x d f ≡ letters_after n pivots x d g
  letters-seen (one h q) near = ap (λ l. (image h q (plus l)).letters) same.letters
  letters-seen (two h p q) near = ap (λ l. (image_pair h p q (plus l)).letters) same.letters
  letters-seen (controlled l k q) near = λ i. times_where (same.flips k (within (or-left (nat_lt m k) false near)) i) (single n q l).letters (same.letters i)
    where
      within : nat_lt m k ≡ false → k ≤ m
      within e = grind arith
  letters-seen (collapse l q recorded inverted resets) near =
      ap (λ s. times_where (resets && flips_outcome pivots d (single n q l) s) (single n q (flip_of l)).letters (letters_measured pivots d (single n q l) s)) same.letters
  letters-seen (product factors inverted) near = ap (letters_measured pivots d (string_of n factors)) same.letters
  letters-seen (detector ks) near = same.letters
  letters-seen (observable j ks) near = same.letters

  pub given-seen : (x : Step) → list_any (nat_lt m) (lookbacks x) ≡ false → flips_given n pivots x d f ≡ flips_given n pivots x d g
  given-seen (one h q) near = refl
  given-seen (two h p q) near = refl
  given-seen (controlled l k q) near = refl
  given-seen (collapse l q recorded inverted resets) near = ap (λ s. one_flipped recorded (flips_outcome pivots d (single n q l) s)) same.letters
  given-seen (product factors inverted) near = ap (λ s. one_flipped true (flips_outcome pivots d (string_of n factors) s)) same.letters
  given-seen (detector ks) near = ap (λ b. record nothing { detectors = b ∷ [] }) (parity-same m f.flips g.flips same.flips ks near)
  given-seen (observable j ks) near = ap (λ b. record nothing { additions = record { observable = j; bit = b } ∷ [] }) (parity-same m f.flips g.flips same.flips ks near)

-- a step flips a bit for each record that it makes
pub given-makes : (n : ℕ) (pivots : RunPivots) (x : Step) (c : ℕ) (f : Frame) → length (flips_given n pivots x c f).records ≡ makes x
given-makes n pivots (one g q) c f = refl
given-makes n pivots (two g p q) c f = refl
given-makes n pivots (controlled l k q) c f = refl
given-makes n pivots (collapse l q true inverted resets) c f = refl
given-makes n pivots (collapse l q false inverted resets) c f = refl
given-makes n pivots (product factors inverted) c f = refl
given-makes n pivots (detector ks) c f = refl
given-makes n pivots (observable j ks) c f = refl

-- Outcomes treated alike: a frame goes the same way by other pivots and from another coin number, if they treat each outcome alike.
use Rattle.stab_frames.proofs.Names.{◌≡◌, ℕ, ◌+◌, ◌<◌, ◌≤◌, refl, ◌∙◌, ap, subst, Bool, true, ◌&&◌, List, [], ◌∷◌, ◌++◌, arith, Letter, strings_anticommute, single, Step, one, two, controlled, collapse, product, detector, observable, string_of, flip_of, joined, coins_of, all_coins_of, Frame, times_where, RunPivots, flip_by, letters_for, one_flipped, letters_after, flips_given, frame_after, frame_over, flips_over}

-- at two coins outcomes are treated alike: flipped or not, and the letters after them
abbrev pub IsTreatedAlike : RunPivots → RunPivots → (c d : ℕ) → Type 0
IsTreatedAlike p r c d =
    (anticommuting : Bool)
    → (flip_by (p.strings c) (p.changes c) anticommuting ≡ flip_by (r.strings d) (r.changes d) anticommuting)
    × ((f : List Letter) → letters_for (p.strings c) (p.changes c) anticommuting f ≡ letters_for (r.strings d) (r.changes d) anticommuting f)

module _ (n : ℕ) (p r : RunPivots) (c d : ℕ) (f : Frame) where
  pub letters-treated : (x : Step) → (coins_of x ≡ 1 → IsTreatedAlike p r c d) → letters_after n p x c f ≡ letters_after n r x d f
  letters-treated (one g q) same = refl
  letters-treated (two g a b) same = refl
  letters-treated (controlled l k q) same = refl
  letters-treated (collapse l q recorded inverted resets) same =
      let here = same refl (strings_anticommute f.letters (single n q l).letters) in
      λ i. times_where (resets && here.0 i) (single n q (flip_of l)).letters (here.1 f.letters i)
  letters-treated (product factors inverted) same = (same refl (strings_anticommute f.letters (string_of n factors).letters)).1 f.letters
  letters-treated (detector ks) same = refl
  letters-treated (observable j ks) same = refl

  pub given-treated : (x : Step) → (coins_of x ≡ 1 → IsTreatedAlike p r c d) → flips_given n p x c f ≡ flips_given n r x d f
  given-treated (one g q) same = refl
  given-treated (two g a b) same = refl
  given-treated (controlled l k q) same = refl
  given-treated (collapse l q recorded inverted resets) same = ap (one_flipped recorded) (same refl (strings_anticommute f.letters (single n q l).letters)).0
  given-treated (product factors inverted) same = ap (one_flipped true) (same refl (strings_anticommute f.letters (string_of n factors).letters)).0
  given-treated (detector ks) same = refl
  given-treated (observable j ks) same = refl

  pub after-treated : (x : Step) → (coins_of x ≡ 1 → IsTreatedAlike p r c d) → frame_after n p x c f ≡ frame_after n r x d f
  after-treated x same = λ i. record { letters = letters-treated x same i; flips = f.flips ++ (given-treated x same i).records }

-- the same at this many coins
abbrev pub AreTreatedAlike : RunPivots → RunPivots → (c d count : ℕ) → Type 0
AreTreatedAlike p r c d count = (t : ℕ) → t < count → IsTreatedAlike p r (c + t) (d + t)

module _ (p r : RunPivots) (c d : ℕ) where
  first-treated : (count : ℕ) → 1 ≤ count → AreTreatedAlike p r c d count → IsTreatedAlike p r c d
  first-treated count some same = subst (λ x. x) (λ i. IsTreatedAlike p r (none c i) (none d i)) (same 0 (omega (arith, some)))
    where
      none : (k : ℕ) → k + 0 ≡ k
      none k = omega arith

  later-treated : (k count : ℕ) → AreTreatedAlike p r c d (k + count) → AreTreatedAlike p r (c + k) (d + k) count
  later-treated k count same t lt = subst (λ x. x) (λ i. IsTreatedAlike p r (more c i) (more d i)) (same (k + t) (omega (arith, lt)))
    where
      more : (a : ℕ) → a + (k + t) ≡ (a + k) + t
      more a = omega arith

-- steps one after another
module _ (n : ℕ) (p r : RunPivots) where
  here : (x : Step) (xs : List Step) (c d : ℕ) → AreTreatedAlike p r c d (all_coins_of (x ∷ xs)) → coins_of x ≡ 1 → IsTreatedAlike p r c d
  here x xs c d same some = first-treated p r c d (all_coins_of (x ∷ xs)) (omega (arith, some)) same

  pub over-treated : (xs : List Step) (c d : ℕ) (f : Frame) → AreTreatedAlike p r c d (all_coins_of xs) → frame_over n p xs c f ≡ frame_over n r xs d f
  over-treated [] c d f same = refl
  over-treated (x ∷ xs) c d f same =
      over-treated xs (c + coins_of x) (d + coins_of x) (frame_after n p x c f) (later-treated p r c d (coins_of x) (all_coins_of xs) same)
      ∙ ap (frame_over n r xs (d + coins_of x)) (after-treated n p r c d f x (here x xs c d same))

  pub flips-treated : (xs : List Step) (c d : ℕ) (f : Frame) → AreTreatedAlike p r c d (all_coins_of xs) → flips_over n p xs c f ≡ flips_over n r xs d f
  flips-treated [] c d f same = refl
  flips-treated (x ∷ xs) c d f same =
      (λ i. joined (given-treated n p r c d f x (here x xs c d same) i)
      (flips-treated xs (c + coins_of x) (d + coins_of x) (frame_after n p x c f) (later-treated p r c d (coins_of x) (all_coins_of xs) same) i))
      ∙ ap (λ g. joined (flips_given n r x d f) (flips_over n r xs (d + coins_of x) g)) (after-treated n p r c d f x (here x xs c d same))

-- Follows: how the difference of a lane goes over steps, one by one and one after another.
use Rattle.stab_sampler.proofs.Names.{◌≡◌, ℕ, ◌+◌, refl, sym, ◌∙◌, ap, Bool, false, ◌&&◌, List, [], ◌∷◌, ◌++◌, append-nil, arith, Letter, Signed, single, strings_anticommute, Factor, Step, collapse, product, when, flip_of, string_of, nothing, joined, coins_of, all_coins_of, joined-nothing, joined-assoc, coins-append, times_where, RunPivots, flip_by, letters_for, flips_outcome, letters_measured, letters_after, flips_given, frame_over, flips_over, frame-append, flips-append, Difference, frame_of_difference, next_coin, DiffersAlong, IsMeasuredBy, without_outcomes}

-- steps one after another

pub follows-none : (n : ℕ) (pivots : RunPivots) (a : Difference) → DiffersAlong n pivots [] a a
follows-none n pivots a = record { frame = refl; flips = sym (joined-nothing a.flips); coin = omega arith }

pub follows-append : (n : ℕ) (pivots : RunPivots) (xs ys : List Step) (a b c : Difference) → DiffersAlong n pivots xs a b → DiffersAlong n pivots ys b c → DiffersAlong n pivots (xs ++ ys) a c
follows-append n pivots xs ys a b c first then = record {
  frame =
      then.frame
      ∙ (λ i. frame_over n pivots ys (first.coin i) (first.frame i))
      ∙ sym (frame-append n pivots xs ys (next_coin a) (frame_of_difference a));
  flips =
      then.flips
      ∙ (λ i. joined (first.flips i) (without_outcomes (flips_over n pivots ys (first.coin i) (first.frame i))))
      ∙ joined-assoc a.flips (without_outcomes (flips_over n pivots xs (next_coin a) (frame_of_difference a)))
      (without_outcomes (flips_over n pivots ys (next_coin a + all_coins_of xs) (frame_over n pivots xs (next_coin a) (frame_of_difference a))))
      ∙ ap (λ o. joined a.flips (without_outcomes o)) (sym (flips-append n pivots xs ys (next_coin a) (frame_of_difference a)));
  coin = omega (arith, then.coin, first.coin, coins-append xs ys);
}

-- one step

module _ (n : ℕ) (pivots : RunPivots) (old new : Difference) where
  pub follows-step : (x : Step) → new.letters ≡ letters_after n pivots x (next_coin old) (frame_of_difference old)
      → new.flips ≡ joined old.flips (without_outcomes (flips_given n pivots x (next_coin old) (frame_of_difference old)))
      → next_coin new ≡ next_coin old + coins_of x → DiffersAlong n pivots (x ∷ []) old new
  follows-step x letters flips coin = record {
    frame = λ i. record { letters = letters i; flips = (flips i).records };
    flips = flips ∙ ap (λ o. joined old.flips (without_outcomes o)) (sym (joined-nothing (flips_given n pivots x (next_coin old) (frame_of_difference old))));
    coin = omega (arith, coin);
  }

  -- measurements

  measured-flips : (mid : Difference) (rs : List Bool) → mid.flips ≡ record old.flips { free = old.flips.free ++ false ∷ [] }
      → new.flips ≡ record mid.flips { records = mid.flips.records ++ rs } → new.flips ≡ joined old.flips (record nothing { records = rs; free = false ∷ [] })
  measured-flips mid rs middle flips =
      flips
      ∙ (λ i. record (middle i) { records = (middle i).records ++ rs })
      ∙ (λ i. record {
        records = old.flips.records ++ rs;
        free = old.flips.free ++ false ∷ [];
        outcomes = sym (append-nil old.flips.outcomes) i;
        detectors = sym (append-nil old.flips.detectors) i;
        additions = sym (append-nil old.flips.additions) i;
      })

  -- past the coin of what anticommutes or not
  module _ (m : Signed) (distinct flip : Bool) (mid : Difference) (ea : distinct ≡ strings_anticommute old.letters m.letters) (is : IsMeasuredBy pivots distinct flip old mid) where
    flipped-so : flip ≡ flips_outcome pivots (next_coin old) m old.letters
    flipped-so = is.outcome ∙ ap (flip_by (pivots.strings (next_coin old)) (pivots.changes (next_coin old))) ea

    letters-so : mid.letters ≡ letters_measured pivots (next_coin old) m old.letters
    letters-so = is.letters ∙ ap (λ d. letters_for (pivots.strings (next_coin old)) (pivots.changes (next_coin old)) d old.letters) ea

  pub follows-collapse : (l : Letter) (q : ℕ) (recorded inverted resets distinct flip : Bool) (mid : Difference) → distinct ≡ strings_anticommute old.letters (single n q l).letters
      → IsMeasuredBy pivots distinct flip old mid → new.letters ≡ times_where (resets && flip) (single n q (flip_of l)).letters mid.letters
      → new.flips ≡ record mid.flips { records = mid.flips.records ++ when recorded flip } → next_coin new ≡ next_coin old + 1
      → DiffersAlong n pivots (collapse l q recorded inverted resets ∷ []) old new
  follows-collapse l q recorded inverted resets distinct flip mid ea is letters flips coin =
      let so = flipped-so (single n q l) distinct flip mid ea is in
      follows-step (collapse l q recorded inverted resets)
      (letters ∙ (λ i. times_where (resets && so i) (single n q (flip_of l)).letters (letters-so (single n q l) distinct flip mid ea is i)))
      (measured-flips mid (when recorded flip) is.flips flips ∙ ap (λ b. joined old.flips (record nothing { records = when recorded b; free = false ∷ [] })) so) coin

  pub follows-product : (factors : List Factor) (inverted distinct flip : Bool) (mid : Difference) → distinct ≡ strings_anticommute old.letters (string_of n factors).letters
      → IsMeasuredBy pivots distinct flip old mid → new.letters ≡ mid.letters → new.flips ≡ record mid.flips { records = mid.flips.records ++ flip ∷ [] }
      → next_coin new ≡ next_coin old + 1 → DiffersAlong n pivots (product factors inverted ∷ []) old new
  follows-product factors inverted distinct flip mid ea is letters flips coin =
      follows-step (product factors inverted) (letters ∙ letters-so (string_of n factors) distinct flip mid ea is)
      (measured-flips mid (flip ∷ []) is.flips flips
      ∙ ap (λ b. joined old.flips (record nothing { records = b ∷ []; free = false ∷ [] })) (flipped-so (string_of n factors) distinct flip mid ea is)) coin

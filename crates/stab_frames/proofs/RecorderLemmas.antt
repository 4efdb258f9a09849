-- Noted: a run that records pivots on its way keeps them numbered and true.
use Rattle.stab_frames.proofs.Names.{◌≡◌, ℕ, ◌+◌, min, refl, sym, ◌∙◌, ap, subst, Bool, true, false, List, [], ◌∷◌, ◌++◌, append_assoc, append-nil, length, take, arith, Option, Some, IfSome, take_all, Letter, Signed, single, member, is_random, is_random_by, IsPivot, length-one_letter, same-random, Step, one, two, controlled, collapse, product, detector, observable, ones, string_of, measured_by, Point, origin, given, next_point, point_after, outputs, all_coins_of, ProgramState, IsAt, IsRun, after-append, length-string_of, coins-are, PivotsState, pivot_at, IsNumbered, IsTrueAt, AreTrue, KeepsTrue, IsAdded, KeepsPivotsOf, KeepsPivots}
use Rattle.std.proofs.Common.{length-append}
use Rattle.stab_frames.proofs.RunPivotLemmas.{unmeasured}
use Rattle.stab_frames.proofs.TrueLemmas.{true-append, true-same, true-none, pivot-same_group}
use Rattle.stab_frames.proofs.PivotAtLemmas.{pivot-before, pivot-fixed, pivot-random, pivot-past, numbered-fixed, numbered-random, numbered-full}

-- the strings of earlier steps stay true with more after them and after the randomness
module _ (n : ℕ) (coins : ℕ → Bool) (xs : List Step) (stored : PivotsState) (free randomness : List Bool) (more : List (List Letter)) (numbered : IsNumbered stored free)
    (count : length free ≡ (point_after n coins xs origin).coin) where
  front-true : AreTrue n coins (pivot_at stored.strings free) xs origin → AreTrue n coins (pivot_at (take stored.most (stored.strings ++ more)) (free ++ randomness)) xs origin
  front-true is =
      true-same n coins (pivot_at stored.strings free) (pivot_at (take stored.most (stored.strings ++ more)) (free ++ randomness)) xs origin
      (λ t lt.
      ap (pivot_at stored.strings free) (none t)
      ∙ sym (pivot-before stored.most stored.strings more free randomness t numbered (omega (arith, count, coins-are n coins xs origin, lt)))
      ∙ ap (pivot_at (take stored.most (stored.strings ++ more)) (free ++ randomness)) (sym (none t))) is
    where
      none : (t : ℕ) → 0 + t ≡ t
      none t = omega arith

as_many : (stored : PivotsState) (free : List Bool) → IsNumbered stored free → take stored.most (stored.strings ++ []) ≡ stored.strings
as_many stored free numbered = ap (take stored.most) (append-nil stored.strings) ∙ take_all stored.most stored.strings (omega (arith, numbered))

-- steps that measure nothing

true-unmeasured : (n : ℕ) (coins : ℕ → Bool) (strings : ℕ → Option (List Letter)) (xs : List Step) (a : Point) → all_coins_of xs ≡ 0 → AreTrue n coins strings xs a
true-unmeasured n coins strings [] a none = tt
true-unmeasured n coins strings (x ∷ xs) a none = (
  unmeasured n (λ m. IfSome (strings a.coin) (λ s. IsPivot n (member a.trace) m s)) x (omega (arith, none)),
  true-unmeasured n coins strings xs (next_point n coins x a) (omega (arith, none)),
)

no-more : (front bits all : List Bool) → all ≡ front ++ bits → length all ≡ length front → all ≡ front
no-more front [] all e same = e ∙ append-nil front
no-more front (b ∷ bits) all e same = absurd (omega (arith, same, ap length e, length-append front (b ∷ bits)))

pub keeps-unmeasured : (n : ℕ) (coins : ℕ → Bool) (xs : List Step) (stored following : PivotsState) (old new : ProgramState) → all_coins_of xs ≡ 0
    → following.strings ≡ stored.strings → following.most ≡ stored.most → IsRun n coins xs old new → KeepsTrue n coins xs stored following old new
keeps-unmeasured n coins xs stored following old new none same most run ys at numbered is =
    let p = point_after n coins ys origin in
    let there = run p at in
    let count : length new.output.free ≡ length old.output.free = omega (arith, there.shows.coin, coins-are n coins xs p, none, at.coin) in
    let randomness = no-more old.output.free (outputs n coins xs p).free new.output.free (ap (λ o. o.free) there.output) count in (
      subst (λ k. length following.strings ≡ min k following.most) (sym (ap ones randomness)) (ap length same ∙ numbered ∙ ap (λ k. min (ones old.output.free) k) (sym most)),
      subst (λ s. AreTrue n coins (pivot_at s new.output.free) (ys ++ xs) origin) (sym same)
          (subst (λ bits. AreTrue n coins (pivot_at stored.strings bits) (ys ++ xs) origin) (sym randomness)
          (true-append n coins (pivot_at stored.strings old.output.free) ys xs origin is (true-unmeasured n coins (pivot_at stored.strings old.output.free) xs p none))),
    )

-- steps at which no further string is stored

pub keeps-full : (n : ℕ) (coins : ℕ → Bool) (xs : List Step) (stored : PivotsState) (old new : ProgramState) → length stored.strings ≡ stored.most
    → IsRun n coins xs old new → KeepsTrue n coins xs stored stored old new
keeps-full n coins xs stored old new full run ys at numbered is =
    let p = point_after n coins ys origin in
    let free = old.output.free in
    let more = (outputs n coins xs p).free in
    let randomness : new.output.free ≡ free ++ more = ap (λ o. o.free) (run p at).output in (
      subst (λ bits. IsNumbered stored bits) (sym randomness) (numbered-full stored free more full numbered),
      subst (λ bits. AreTrue n coins (pivot_at stored.strings bits) (ys ++ xs) origin) (sym randomness)
          (true-append n coins (pivot_at stored.strings (free ++ more)) ys xs origin
          (subst (λ s. AreTrue n coins (pivot_at s (free ++ more)) ys origin) (as_many stored free numbered) (front-true n coins ys stored free more [] numbered at.coin is))
          (true-none n coins (pivot_at stored.strings (free ++ more)) xs p
          (λ t le. pivot-past stored.strings free more t (omega (arith, at.coin, le)) (omega (arith, numbered))))),
    )

-- one step

-- a measurement whose outcome is fixed, and one whose outcome is random
module _ (n : ℕ) (coins : ℕ → Bool) (x : Step) (m : Signed) (stored following : PivotsState) (old new : ProgramState) (measured : measured_by n x ≡ Some m)
    (size : length m.letters ≡ n) (gives : (p : Point) → (given n coins x p).free ≡ is_random p.trace m ∷ []) (most : following.most ≡ stored.most)
    (run : IsRun n coins (x ∷ []) old new) where
  randomness-of : (xs : List Step) (flag : Bool) → IsAt n old (point_after n coins xs origin) → is_random (point_after n coins xs origin).trace m ≡ flag
      → new.output.free ≡ old.output.free ++ flag ∷ []
  randomness-of xs flag at e =
      ap (λ o. o.free) (run (point_after n coins xs origin) at).output
      ∙ ap (λ bits. old.output.free ++ (bits ++ [])) (gives (point_after n coins xs origin) ∙ ap (λ b. b ∷ []) e)

  true-of : (strings : ℕ → Option (List Letter)) (p : Point) → IfSome (strings p.coin) (λ s. IsPivot n (member p.trace) m s) → IsTrueAt n strings x p
  true-of strings p is = subst (λ o. IfSome o (λ q. IfSome (strings p.coin) (λ s. IsPivot n (member p.trace) q s))) (sym measured) is

  keeps-fixed : (xs : List Step) → IsAt n old (point_after n coins xs origin) → IsNumbered stored old.output.free
      → is_random (point_after n coins xs origin).trace m ≡ false → following.strings ≡ stored.strings
      → AreTrue n coins (pivot_at stored.strings old.output.free) xs origin
      → IsNumbered following new.output.free × AreTrue n coins (pivot_at following.strings new.output.free) (xs ++ x ∷ []) origin
  keeps-fixed xs at numbered fixed same is =
      let p = point_after n coins xs origin in
      let free = old.output.free in
      let randomness = randomness-of xs false at fixed in (
        subst (λ bits. length following.strings ≡ min (ones bits) following.most) (sym randomness)
            (ap length same ∙ numbered-fixed stored.most stored.strings free numbered ∙ ap (λ k. min (ones (free ++ false ∷ [])) k) (sym most)),
        subst (λ s. AreTrue n coins (pivot_at s new.output.free) (xs ++ x ∷ []) origin) (as_many stored free numbered ∙ sym same)
            (subst (λ bits. AreTrue n coins (pivot_at (take stored.most (stored.strings ++ [])) bits) (xs ++ x ∷ []) origin) (sym randomness)
            (true-append n coins (pivot_at (take stored.most (stored.strings ++ [])) (free ++ false ∷ [])) xs (x ∷ []) origin
            (front-true n coins xs stored free (false ∷ []) [] numbered at.coin is) (
              true-of (pivot_at (take stored.most (stored.strings ++ [])) (free ++ false ∷ [])) p
                  (subst (λ c. IfSome (pivot_at (take stored.most (stored.strings ++ [])) (free ++ false ∷ []) c) (λ s. IsPivot n (member p.trace) m s)) at.coin
                  (subst (λ o. IfSome o (λ s. IsPivot n (member p.trace) m s)) (sym (pivot-fixed (take stored.most (stored.strings ++ [])) free)) tt)),
              tt,
            ))),
      )

  keeps-random : (xs : List Step) → IsAt n old (point_after n coins xs origin) → IsNumbered stored old.output.free
      → is_random (point_after n coins xs origin).trace m ≡ true → IsAdded n old.stabilised m stored following
      → AreTrue n coins (pivot_at stored.strings old.output.free) xs origin
      → IsNumbered following new.output.free × AreTrue n coins (pivot_at following.strings new.output.free) (xs ++ x ∷ []) origin
  keeps-random xs at numbered is_random added is =
      let p = point_after n coins xs origin in
      let free = old.output.free in
      let randomness = randomness-of xs true at is_random in
      let s = added.string in
      let is_pivot = pivot-same_group n old.stabilised (member p.trace) m s at.group added.is_pivot in (
        subst (λ bits. length following.strings ≡ min (ones bits) following.most) (sym randomness)
            (ap length added.strings ∙ numbered-random stored.most stored.strings s free numbered ∙ ap (λ k. min (ones (free ++ true ∷ [])) k) (sym most)),
        subst (λ t. AreTrue n coins (pivot_at t new.output.free) (xs ++ x ∷ []) origin) (sym added.strings)
            (subst (λ bits. AreTrue n coins (pivot_at (take stored.most (stored.strings ++ s ∷ [])) bits) (xs ++ x ∷ []) origin) (sym randomness)
            (true-append n coins (pivot_at (take stored.most (stored.strings ++ s ∷ [])) (free ++ true ∷ [])) xs (x ∷ []) origin
            (front-true n coins xs stored free (true ∷ []) (s ∷ []) numbered at.coin is) (
              true-of (pivot_at (take stored.most (stored.strings ++ s ∷ [])) (free ++ true ∷ [])) p
                  (subst (λ c. IfSome (pivot_at (take stored.most (stored.strings ++ s ∷ [])) (free ++ true ∷ []) c) (λ t. IsPivot n (member p.trace) m t)) at.coin
                  (pivot-random (λ t. IsPivot n (member p.trace) m t) stored.most stored.strings s free numbered is_pivot)),
              tt,
            ))),
      )

  keeps-measured : KeepsPivotsOf n old.stabilised (Some m) stored following → KeepsTrue n coins (x ∷ []) stored following old new
  keeps-measured has_pivots xs at numbered is = by_flag (is_random_by old.stabilised m) refl
    where
      p : Point
      p = point_after n coins xs origin

      same : is_random p.trace m ≡ is_random_by old.stabilised m
      same = sym (same-random n old.stabilised (member p.trace) m size at.group)

      by_flag : (b : Bool) → is_random_by old.stabilised m ≡ b
          → IsNumbered following new.output.free × AreTrue n coins (pivot_at following.strings new.output.free) (xs ++ x ∷ []) origin
      by_flag false e = keeps-fixed xs at numbered (same ∙ e) (has_pivots.1 e) is
      by_flag true e = keeps-random xs at numbered (same ∙ e) (has_pivots.0 e) is

pub keeps-step : (n : ℕ) (coins : ℕ → Bool) (x : Step) (stored following : PivotsState) (old new : ProgramState) → KeepsPivots n old.stabilised x stored following
    → following.most ≡ stored.most → IsRun n coins (x ∷ []) old new → KeepsTrue n coins (x ∷ []) stored following old new
keeps-step n coins (one g q) stored following old new has_pivots most run = keeps-unmeasured n coins (one g q ∷ []) stored following old new refl has_pivots most run
keeps-step n coins (two g a b) stored following old new has_pivots most run = keeps-unmeasured n coins (two g a b ∷ []) stored following old new refl has_pivots most run
keeps-step n coins (controlled l k q) stored following old new has_pivots most run = keeps-unmeasured n coins (controlled l k q ∷ []) stored following old new refl has_pivots most run
keeps-step n coins (collapse l q recorded inverted resets) stored following old new has_pivots most run =
    keeps-measured n coins (collapse l q recorded inverted resets) (single n q l) stored following old new refl (length-one_letter n q l) (λ p. refl) most run has_pivots
keeps-step n coins (product factors inverted) stored following old new has_pivots most run =
    keeps-measured n coins (product factors inverted) (string_of n factors) stored following old new refl (length-string_of n factors) (λ p. refl) most run has_pivots
keeps-step n coins (detector ks) stored following old new has_pivots most run = keeps-unmeasured n coins (detector ks ∷ []) stored following old new refl has_pivots most run
keeps-step n coins (observable j ks) stored following old new has_pivots most run = keeps-unmeasured n coins (observable j ks ∷ []) stored following old new refl has_pivots most run

-- no step, and steps one after another

pub keeps-none : (n : ℕ) (coins : ℕ → Bool) (stored : PivotsState) (a : ProgramState) → KeepsTrue n coins [] stored stored a a
keeps-none n coins stored a xs at numbered is = (numbered, subst (λ ys. AreTrue n coins (pivot_at stored.strings a.output.free) ys origin) (sym (append-nil xs)) is)

pub keeps-append : (n : ℕ) (coins : ℕ → Bool) (xs ys : List Step) (stored mid following : PivotsState) (a b c : ProgramState)
    → IsRun n coins xs a b → KeepsTrue n coins xs stored mid a b → KeepsTrue n coins ys mid following b c → KeepsTrue n coins (xs ++ ys) stored following a c
keeps-append n coins xs ys stored mid following a b c run first then zs at numbered is =
    let here = first zs at numbered is in
    let arrived = subst (IsAt n b) (sym (after-append n coins zs xs origin)) (run (point_after n coins zs origin) at).shows in
    let all = then (zs ++ xs) arrived here.0 here.1 in
    (all.0, subst (λ ws. AreTrue n coins (pivot_at following.strings c.output.free) ws origin) (append_assoc zs xs ys) all.1)

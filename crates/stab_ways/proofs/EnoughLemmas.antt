-- Enough: a frame that takes each outcome as a fixed one needs no pivot, if exactly the coins of those random outcomes differ that it flips.
use Rattle.stab_ways.proofs.Names.{◌≡◌, ℕ, zero, suc, ◌+◌, ◌<◌, refl, sym, ◌∙◌, ap, subst, Bool, true, false, ◌&&◌, List, [], ◌∷◌, ◌++◌, length, get_or, arith, length-append, ◌⊕◌, single, strings_anticommute, is_random, Step, one, two, controlled, collapse, product, detector, observable, string_of, Point, RunOutput, coins_of, all_coins_of, next_point, point_after, outputs, outputs-append, randomness-counted, coins-are, coins-append, Frame, no_strings, flips_given, IsEnoughAt, by_letters, way_after, way_over, way_flips}
use Rattle.stab_ways.proofs.FixedLemmas.{flips-more}

-- a random outcome whose coin differs exactly if the frame anticommutes
one-enough : (change free distinct : Bool) → change ≡ (free && distinct) → change ⊕ distinct ≡ true → free ≡ false
one-enough change false distinct e h = refl
one-enough true true true e h = cc
one-enough true true false e h = cc
one-enough false true true e h = cc
one-enough false true false e h = cc

none-more : (c : ℕ) → c + 0 ≡ c
none-more c = omega arith

-- coins that differ so at a step, and at those after it

module _ (n : ℕ) (coins changes : ℕ → Bool) where
  abbrev pub Differ : List Step → Frame → Point → Type 0
  Differ xs f a =
      (t : ℕ) → t < all_coins_of xs → changes (a.coin + t) ≡ (get_or (outputs n coins xs a).free t false && get_or (way_flips n xs f).outcomes t false)

  pub here-enough : (x : Step) (xs : List Step) (f : Frame) (a : Point) → Differ (x ∷ xs) f a → IsEnoughAt n (no_strings changes) x f.letters a
  here-enough (one g q) xs f a e = tt
  here-enough (two g p q) xs f a e = tt
  here-enough (controlled l k q) xs f a e = tt
  here-enough (collapse l q recorded inverted resets) xs f a e =
      one-enough (changes a.coin) (is_random a.trace (single n q l)) (strings_anticommute f.letters (single n q l).letters)
      (ap changes (sym (none-more a.coin)) ∙ e 0 (omega arith))
  here-enough (product factors inverted) xs f a e =
      one-enough (changes a.coin) (is_random a.trace (string_of n factors)) (strings_anticommute f.letters (string_of n factors).letters)
      (ap changes (sym (none-more a.coin)) ∙ e 0 (omega arith))
  here-enough (detector ks) xs f a e = tt
  here-enough (observable j ks) xs f a e = tt

  pub later : (x : Step) (xs : List Step) (f : Frame) (a : Point) → Differ (x ∷ xs) f a → Differ xs (way_after n x f) (next_point n coins x a)
  later (one g q) xs f a e t lt = ap changes (ap (λ c. c + t) (none-more a.coin)) ∙ e t (omega (arith, lt))
  later (two g p q) xs f a e t lt = ap changes (ap (λ c. c + t) (none-more a.coin)) ∙ e t (omega (arith, lt))
  later (controlled l k q) xs f a e t lt = ap changes (ap (λ c. c + t) (none-more a.coin)) ∙ e t (omega (arith, lt))
  later (collapse l q recorded inverted resets) xs f a e t lt =
      let on : (a.coin + 1) + t ≡ a.coin + suc t = omega arith in ap changes on ∙ e (suc t) (omega (arith, lt))
  later (product factors inverted) xs f a e t lt =
      let on : (a.coin + 1) + t ≡ a.coin + suc t = omega arith in ap changes on ∙ e (suc t) (omega (arith, lt))
  later (detector ks) xs f a e t lt = ap changes (ap (λ c. c + t) (none-more a.coin)) ∙ e t (omega (arith, lt))
  later (observable j ks) xs f a e t lt = ap changes (ap (λ c. c + t) (none-more a.coin)) ∙ e t (omega (arith, lt))

-- a bit of one list after another

pub get_or-following : (xs ys : List Bool) (m t : ℕ) → length xs ≡ m → get_or (xs ++ ys) (m + t) false ≡ get_or ys t false
get_or-following xs ys zero t e = following xs e
  where
    following : (xs : List Bool) → length xs ≡ 0 → get_or (xs ++ ys) (0 + t) false ≡ get_or ys t false
    following [] e = let same : 0 + t ≡ t = omega arith in ap (λ k. get_or ys k false) same
    following (x ∷ xs) e = absurd (omega (arith, e))
get_or-following [] ys (suc m) t e = absurd (omega (arith, e))
get_or-following (x ∷ xs) ys (suc m) t e =
    let next : suc m + t ≡ suc (m + t) = omega arith in
    ap (λ k. get_or (x ∷ (xs ++ ys)) k false) next ∙ get_or-following xs ys m t (omega (arith, e))

pub get_or-front : (xs ys : List Bool) (t : ℕ) → t < length xs → get_or (xs ++ ys) t false ≡ get_or xs t false
get_or-front [] ys t lt = absurd (omega (arith, lt))
get_or-front (x ∷ xs) ys zero lt = refl
get_or-front (x ∷ xs) ys (suc t) lt = get_or-front xs ys t (omega (arith, lt))

-- a frame flips an outcome for each coin, or not

one-flip : (n : ℕ) (x : Step) (f : Frame) → length (flips_given n by_letters x 0 f).outcomes ≡ coins_of x
one-flip n (one g q) f = refl
one-flip n (two g p q) f = refl
one-flip n (controlled l k q) f = refl
one-flip n (collapse l q recorded inverted resets) f = refl
one-flip n (product factors inverted) f = refl
one-flip n (detector ks) f = refl
one-flip n (observable j ks) f = refl

pub long-flips : (n : ℕ) (xs : List Step) (f : Frame) → length (way_flips n xs f).outcomes ≡ all_coins_of xs
long-flips n [] f = refl
long-flips n (x ∷ xs) f =
    length-append (flips_given n by_letters x 0 f).outcomes (way_flips n xs (way_after n x f)).outcomes
    ∙ (λ i. one-flip n x f i + long-flips n xs (way_after n x f) i)

-- and so they are at the first of steps

module _ (n : ℕ) (coins changes : ℕ → Bool) where
  long-random : (xs : List Step) (a : Point) → length (outputs n coins xs a).free ≡ all_coins_of xs
  long-random xs a = omega (arith, randomness-counted n coins xs a, coins-are n coins xs a)

  pub differ-front : (xs ys : List Step) (f : Frame) (a : Point) → Differ n coins changes (xs ++ ys) f a → Differ n coins changes xs f a
  differ-front xs ys f a e t lt =
      e t (omega (arith, lt, coins-append xs ys))
      ∙ (λ i. (ap (λ (o : RunOutput). get_or o.free t false) (outputs-append n coins xs ys a)
      ∙ get_or-front (outputs n coins xs a).free (outputs n coins ys (point_after n coins xs a)).free t (subst (λ m. t < m) (sym (long-random xs a)) lt)) i
      && (ap (λ (o : RunOutput). get_or o.outcomes t false) (flips-more n xs ys f)
      ∙ get_or-front (way_flips n xs f).outcomes (way_flips n ys (way_over n xs f)).outcomes t (subst (λ m. t < m) (sym (long-flips n xs f)) lt)) i)

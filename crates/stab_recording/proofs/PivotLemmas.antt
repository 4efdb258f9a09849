-- Pivots: what is recorded of a coin if strings and randomness are cut, or others are put after them, and strings of a run that are recorded again.
use Rattle.stab_recording.proofs.Names.{◌≡◌, ℕ, suc, ◌+◌, ◌<◌, ◌≤◌, refl, sym, ◌∙◌, ap, subst, Bool, true, false, ◌⊎◌, inl, inr, List, [], ◌∷◌, ◌++◌, length, take, drop, slice_get, get_or, Option, None, arith, IfSome, if◌then◌else◌, cases_lt, length-append, length-take, length-drop, get_or-take, get_or_append_left, take-append-le, get_or-append-add, get_or-drop, take-take, take-append-add, Letter, Step, one, two, controlled, collapse, product, detector, observable, ones, Point, origin, coins_of, all_coins_of, next_point, point_after, outputs, ones-append, with_coin, randomness-is-coins, coins-are, PivotsState, IsNumbered, IsTrueAt, AreTrue, pivot_at, stored_with, ArePropagatedOver, true-conjugated-at, true-append, true-same, true-none, ones-split, get-append, get-following, pivot-equal, pivot-past}
use Rattle.stab_recording.proofs.BitLemmas.{counted}
use Rattle.stab_recording.proofs.CutLemmas.{get-take, get-beyond, get-drop, ones-take}

-- pivots that are none, or the same

abbrev pub IsNoneOr : Option (List Letter) → Option (List Letter) → Type 0
IsNoneOr o p = (o ≡ None) ⊎ (o ≡ p)

none-or : (P : List Letter → Type 0) (o p : Option (List Letter)) → IsNoneOr o p → IfSome p P → IfSome o P
none-or P o p (inl e) h = subst (λ q. IfSome q P) (sym e) tt
none-or P o p (inr e) h = subst (λ q. IfSome q P) (sym e) h

pub at-changed : (n : ℕ) (strings others : ℕ → Option (List Letter)) (x : Step) (a : Point) → (coins_of x ≡ 1 → IsNoneOr (others a.coin) (strings a.coin))
    → IsTrueAt n strings x a → IsTrueAt n others x a
at-changed n strings others (one g q) a h is = tt
at-changed n strings others (two g q r) a h is = tt
at-changed n strings others (controlled l k q) a h is = tt
at-changed n strings others (collapse l q recorded inverted resets) a h is = none-or _ (others a.coin) (strings a.coin) (h refl) is
at-changed n strings others (product factors inverted) a h is = none-or _ (others a.coin) (strings a.coin) (h refl) is
at-changed n strings others (detector ks) a h is = tt
at-changed n strings others (observable j ks) a h is = tt

pub true-changed : (n : ℕ) (coins : ℕ → Bool) (strings others : ℕ → Option (List Letter)) (xs : List Step) (a : Point)
    → ((t : ℕ) → a.coin ≤ t → t < a.coin + all_coins_of xs → IsNoneOr (others t) (strings t)) → AreTrue n coins strings xs a → AreTrue n coins others xs a
true-changed n coins strings others [] a h is = tt
true-changed n coins strings others (x ∷ xs) a h is = (
  at-changed n strings others x a (λ e. h a.coin (omega arith) (omega (arith, e))) is.0,
  true-changed n coins strings others xs (next_point n coins x a) (λ t le lt. h t (omega (arith, le)) (omega (arith, lt))) is.1,
)

-- a pivot when strings and randomness are cut

choose : (b c : Bool) (o p : Option (List Letter)) → b ≡ c → (c ≡ true → IsNoneOr o p) → IsNoneOr (if b then o else None) (if c then p else None)
choose b true o p e h = subst (λ d. IsNoneOr (if d then o else None) p) (sym e) (h refl)
choose b false o p e h = inl (ap (λ d. if d then o else None) e)

pub pivot-front : (strings : List (List Letter)) (free : List Bool) (k m t : ℕ) → t < m → IsNoneOr (pivot_at (take k strings) (take m free) t) (pivot_at strings free t)
pivot-front strings free k m t lt =
    choose (get_or (take m free) t false) (get_or free t false) (slice_get (take k strings) (ones (take t (take m free)))) (slice_get strings (ones (take t free)))
    (get_or-take m free t false lt)
    (λ is. subst (λ bits. IsNoneOr (slice_get (take k strings) (ones bits)) (slice_get strings (ones (take t free)))) (sym (take-take t m free (omega (arith, lt))))
    (get-take k (ones (take t free)) strings))

-- and where others are put after them

module _ (s : PivotsState) (randomness : List Bool) (numbered : IsNumbered s randomness) (others : List (List Letter)) (more : List Bool) where
  pub pivot-left : (t : ℕ) → t < length randomness → IsNoneOr (pivot_at (take s.most (s.strings ++ others)) (randomness ++ more) t) (pivot_at s.strings randomness t)
  pivot-left t lt =
      choose (get_or (randomness ++ more) t false) (get_or randomness t false) (slice_get (take s.most (s.strings ++ others)) (ones (take t (randomness ++ more))))
      (slice_get s.strings (ones (take t randomness))) (get_or_append_left randomness more false t lt)
      (λ is. subst (λ bits. IsNoneOr (slice_get (take s.most (s.strings ++ others)) (ones bits)) (slice_get s.strings (ones (take t randomness)))) (sym (take-append-le t randomness more (omega (arith, lt))))
      (by_position (counted t randomness is) (cases_lt (ones (take t randomness)) (length s.strings))))
    where
      by_position : ones (take t randomness) < ones randomness → (ones (take t randomness) < length s.strings) ⊎ (length s.strings ≤ ones (take t randomness))
          → IsNoneOr (slice_get (take s.most (s.strings ++ others)) (ones (take t randomness))) (slice_get s.strings (ones (take t randomness)))
      by_position counted (inl there) =
          elim (get-take s.most (ones (take t randomness)) (s.strings ++ others)) [
            | inl e ↦ inl e
            | inr e ↦ inr (e ∙ get-append s.strings others (ones (take t randomness)) there)
          ]
      by_position counted (inr beyond) = inl (get-beyond s.most (ones (take t randomness)) (s.strings ++ others) (omega (arith, numbered, counted, beyond)))

module _ (s : PivotsState) (randomness : List Bool) (numbered : IsNumbered s randomness) (strings : List (List Letter)) (free : List Bool) (c : ℕ) where
  pub pivot-beyond : (u : ℕ)
      → IsNoneOr (pivot_at (take s.most (s.strings ++ drop (ones (take c free)) strings)) (randomness ++ drop c free) (length randomness + u)) (pivot_at strings free (c + u))
  pivot-beyond u =
      choose (get_or (randomness ++ drop c free) (length randomness + u) false) (get_or free (c + u) false)
      (slice_get (take s.most (s.strings ++ drop (ones (take c free)) strings)) (ones (take (length randomness + u) (randomness ++ drop c free))))
      (slice_get strings (ones (take (c + u) free)))
      (get_or-append-add randomness (drop c free) u false ∙ get_or-drop c free u false)
      (λ is. subst (λ k. IsNoneOr (slice_get (take s.most (s.strings ++ drop (ones (take c free)) strings)) k) (slice_get strings (ones (take (c + u) free)))) (sym position)
      (subst (λ k. IsNoneOr (slice_get (take s.most (s.strings ++ drop (ones (take c free)) strings)) (ones randomness + ones (take u (drop c free)))) (slice_get strings k))
      (sym (ones-split c u free))
      (by_position (cases_lt (length s.strings) (ones randomness)))))
    where
      position : ones (take (length randomness + u) (randomness ++ drop c free)) ≡ ones randomness + ones (take u (drop c free))
      position =
          ap ones (take-append-add randomness (drop c free) u)
          ∙ ones-append randomness (take u (drop c free))

      by_position : (length s.strings < ones randomness) ⊎ (ones randomness ≤ length s.strings)
          → IsNoneOr (slice_get (take s.most (s.strings ++ drop (ones (take c free)) strings)) (ones randomness + ones (take u (drop c free))))
          (slice_get strings (ones (take c free) + ones (take u (drop c free))))
      by_position (inl short) = inl (get-beyond s.most (ones randomness + ones (take u (drop c free))) (s.strings ++ drop (ones (take c free)) strings) (omega (arith, numbered, short)))
      by_position (inr all) =
          elim (get-take s.most (ones randomness + ones (take u (drop c free))) (s.strings ++ drop (ones (take c free)) strings)) [
            | inl e ↦ inl e
            | inr e ↦ inr (
                e
                ∙ ap (λ k. slice_get (s.strings ++ drop (ones (take c free)) strings) (k + ones (take u (drop c free)))) (omega (arith, numbered, all))
                ∙ get-following s.strings (drop (ones (take c free)) strings) (ones (take u (drop c free)))
                ∙ get-drop (ones (take c free)) (ones (take u (drop c free))) strings
                )
          ]

none-or-both : (o p q : Option (List Letter)) → IsNoneOr o p → IsNoneOr p q → IsNoneOr o q
none-or-both o p q (inl e) h = inl e
none-or-both o p q (inr e) (inl f) = inl (e ∙ f)
none-or-both o p q (inr e) (inr f) = inr (e ∙ f)

-- pivots of what steps measure at one point are true at another, by their positions after the number of the next coin
true-shifted : (n : ℕ) (coins : ℕ → Bool) (strings others : ℕ → Option (List Letter)) (xs : List Step) (a b : Point)
    → ((j : ℕ) → j < all_coins_of xs → IsNoneOr (others (b.coin + j)) (strings (a.coin + j))) → ArePropagatedOver n coins xs a b
    → AreTrue n coins strings xs a → AreTrue n coins others xs b
true-shifted n coins strings others [] a b pivots conjugated is = tt
true-shifted n coins strings others (x ∷ xs) a b pivots conjugated is = (
  at-changed n (λ t. strings a.coin) others x b
      (λ e. subst (λ x. x) (λ i. IsNoneOr (others (first i)) (strings (second i))) (pivots 0 (omega (arith, e))))
      (true-conjugated-at n (λ t. strings a.coin) x a (with_coin a.coin b) (conjugated 0).0 (conjugated 0).1 refl is.0),
  true-shifted n coins strings others xs (next_point n coins x a) (next_point n coins x b)
      (λ j lt. subst (λ x. x) (λ i. IsNoneOr (others (on b.coin j i)) (strings (on a.coin j i))) (pivots (coins_of x + j) (omega (arith, lt))))
      (λ m. conjugated (suc m)) is.1,
)
  where
    first : b.coin + 0 ≡ b.coin
    first = omega arith

    second : a.coin + 0 ≡ a.coin
    second = omega arith

    on : (k j : ℕ) → k + (coins_of x + j) ≡ (k + coins_of x) + j
    on k j = omega arith

-- a run that goes on again over steps, from a point that differs by letters alone, records their pivots again
module _ (n : ℕ) (coins : ℕ → Bool) (xs part : List Step) (s u : PivotsState) (randomness : List Bool) (c d : ℕ) (a : Point) (numbered : IsNumbered s randomness)
    (is : randomness ≡ (outputs n coins xs origin).free) (at : a.coin ≡ c) (last : d ≡ c + all_coins_of part) (preserved : ones (take d randomness) ≤ length s.strings)
    (new : u ≡ record s { strings = stored_with s.most s.strings (drop (ones (take c randomness)) (take (ones (take d randomness)) s.strings)) }) where
  abbrev others : List (List Letter)
  others = drop (ones (take c randomness)) (take (ones (take d randomness)) s.strings)

  first : take c (take d randomness) ≡ take c randomness
  first = take-take c d randomness (omega (arith, last))

  count : length randomness ≡ (point_after n coins xs origin).coin
  count = ap length is ∙ randomness-is-coins n coins xs

  pub numbered-again : IsNumbered u (randomness ++ drop c (take d randomness))
  numbered-again =
      omega (
        arith,
        ap (λ (t : PivotsState). t.most) new,
        ap (λ (t : PivotsState). length t.strings) new,
        length-take s.most (s.strings ++ others),
        length-append s.strings others,
        length-drop (ones (take c randomness)) (take (ones (take d randomness)) s.strings),
        length-take (ones (take d randomness)) s.strings,
        ones-append randomness (drop c (take d randomness)),
        ones-take c (take d randomness),
        ap ones first,
        numbered,
        preserved,
      )

  pivots : (j : ℕ) → j < all_coins_of part
      → IsNoneOr (pivot_at (take s.most (s.strings ++ others)) (randomness ++ drop c (take d randomness)) ((point_after n coins xs origin).coin + j)) (pivot_at s.strings randomness (a.coin + j))
  pivots j lt =
      subst (λ x. x)
      (λ i. IsNoneOr (pivot_at (take s.most (s.strings ++ drop (ones (first i)) (take (ones (take d randomness)) s.strings))) (randomness ++ drop c (take d randomness)) (count i + j))
      (pivot_at s.strings randomness (sym at i + j)))
      (none-or-both _ (pivot_at (take (ones (take d randomness)) s.strings) (take d randomness) (c + j)) _
      (pivot-beyond s randomness numbered (take (ones (take d randomness)) s.strings) (take d randomness) c j)
      (pivot-front s.strings randomness (ones (take d randomness)) d (c + j) (omega (arith, lt, last))))

  pub true-again : AreTrue n coins (pivot_at s.strings randomness) xs origin → AreTrue n coins (pivot_at s.strings randomness) part a
      → ArePropagatedOver n coins part a (point_after n coins xs origin) → AreTrue n coins (pivot_at u.strings (randomness ++ drop c (take d randomness))) (xs ++ part) origin
  true-again are_true true_then conjugated =
      subst (λ l. AreTrue n coins (pivot_at l (randomness ++ drop c (take d randomness))) (xs ++ part) origin) (sym (ap (λ (t : PivotsState). t.strings) new))
      (true-append n coins (pivot_at (take s.most (s.strings ++ others)) (randomness ++ drop c (take d randomness))) xs part origin
      (true-changed n coins (pivot_at s.strings randomness) (pivot_at (take s.most (s.strings ++ others)) (randomness ++ drop c (take d randomness))) xs origin
      (λ t le lt. pivot-left s randomness numbered others (drop c (take d randomness)) t (omega (arith, lt, count, coins-are n coins xs origin))) are_true)
      (true-shifted n coins (pivot_at s.strings randomness) (pivot_at (take s.most (s.strings ++ others)) (randomness ++ drop c (take d randomness))) part a (point_after n coins xs origin) pivots conjugated true_then))

-- a run that goes on, and records no more

pivot-stays : (strings : List (List Letter)) (free more : List Bool) (t : ℕ) → t < length free → pivot_at strings free t ≡ pivot_at strings (free ++ more) t
pivot-stays strings free more t lt =
    sym (pivot-equal strings strings (free ++ more) free t t (get_or_append_left free more false t lt)
    (λ is. ap (λ bits. slice_get strings (ones bits)) (take-append-le t free more (omega (arith, lt)))))

pub true-left : (n : ℕ) (coins : ℕ → Bool) (xs zs : List Step) (strings : List (List Letter)) (randomness more : List Bool) → randomness ≡ (outputs n coins xs origin).free
    → length strings ≤ ones randomness → AreTrue n coins (pivot_at strings randomness) xs origin → AreTrue n coins (pivot_at strings (randomness ++ more)) (xs ++ zs) origin
true-left n coins xs zs strings randomness more is few are_true =
    true-append n coins (pivot_at strings (randomness ++ more)) xs zs origin
    (true-same n coins (pivot_at strings randomness) (pivot_at strings (randomness ++ more)) xs origin
    (λ t lt. pivot-stays strings randomness more (0 + t) (omega (arith, lt, deciding_coins, coins-are n coins xs origin))) are_true)
    (true-none n coins (pivot_at strings (randomness ++ more)) zs (point_after n coins xs origin)
    (λ t le. pivot-past strings randomness more t (omega (arith, le, deciding_coins)) few))
  where
    deciding_coins : length randomness ≡ (point_after n coins xs origin).coin
    deciding_coins = ap length is ∙ randomness-is-coins n coins xs

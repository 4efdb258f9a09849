-- Pivots of coin numbers, by pivots and randomness: in parts, and with more after them.
use Rattle.stab_frames.proofs.Names.{◌≡◌, ℕ, zero, suc, ◌+◌, ◌-◌, ◌<◌, ◌≤◌, min, refl, sym, ◌∙◌, ap, subst, Bool, true, false, List, [], ◌∷◌, ◌++◌, length, take, get_or, arith, ◌⊎◌, inl, inr, Option, None, IfSome, slice_get, if◌then◌else◌, cases_lt, length-append, length-take, take-append-le, get_or_append_left, slice_get_past, take-append-add, Letter, ones, ones-append, PivotsState, pivot_at, IsNumbered}

-- elements by their numbers

pub get-append : {X : Type 0} (xs ys : List X) (i : ℕ) → i < length xs → slice_get (xs ++ ys) i ≡ slice_get xs i
get-append [] ys i lt = absurd (omega arith)
get-append (x ∷ xs) ys zero lt = refl
get-append (x ∷ xs) ys (suc i) lt = get-append xs ys i (omega arith)

pub get-following : {X : Type 0} (xs ys : List X) (i : ℕ) → slice_get (xs ++ ys) (length xs + i) ≡ slice_get ys i
get-following [] ys i = ap (slice_get ys) none
  where
    none : 0 + i ≡ i
    none = omega arith
get-following (x ∷ xs) ys i = ap (slice_get (x ∷ xs ++ ys)) one_more ∙ get-following xs ys i
  where
    one_more : length (x ∷ xs) + i ≡ suc (length xs + i)
    one_more = omega arith

get-take : {X : Type 0} (n : ℕ) (xs : List X) (i : ℕ) → i < n → slice_get (take n xs) i ≡ slice_get xs i
get-take zero xs i lt = absurd (omega arith)
get-take (suc n) [] i lt = refl
get-take (suc n) (x ∷ xs) zero lt = refl
get-take (suc n) (x ∷ xs) (suc i) lt = get-take n xs i (omega arith)

-- fewer are random before one that is random than are random in all
pub ones-before : (free : List Bool) (t : ℕ) → get_or free t false ≡ true → ones (take t free) < ones free
ones-before [] t e = cc
ones-before (true ∷ free) zero e = omega arith
ones-before (false ∷ free) zero e = cc
ones-before (true ∷ free) (suc t) e = let h = ones-before free t e in omega (arith, h)
ones-before (false ∷ free) (suc t) e = ones-before free t e

-- pivots that are the same

pub pivot-equal : (strings others : List (List Letter)) (free randomness : List Bool) (t u : ℕ) → get_or free t false ≡ get_or randomness u false
    → (get_or randomness u false ≡ true → slice_get strings (ones (take t free)) ≡ slice_get others (ones (take u randomness)))
    → pivot_at strings free t ≡ pivot_at others randomness u
pivot-equal strings others free randomness t u flag same =
    ap (λ b. if b then slice_get strings (ones (take t free)) else None) flag ∙ by_flag (get_or randomness u false) refl
  where
    by_flag : (b : Bool) → get_or randomness u false ≡ b
        → (if get_or randomness u false then slice_get strings (ones (take t free)) else None) ≡ pivot_at others randomness u
    by_flag true e =
        ap (λ c. if c then slice_get strings (ones (take t free)) else None) e
        ∙ same e
        ∙ sym (ap (λ c. if c then slice_get others (ones (take u randomness)) else None) e)
    by_flag false e =
        ap (λ c. if c then slice_get strings (ones (take t free)) else None) e
        ∙ sym (ap (λ c. if c then slice_get others (ones (take u randomness)) else None) e)

stored-get : (most : ℕ) (strings more : List (List Letter)) (count i : ℕ) → length strings ≡ min count most → i < count
    → slice_get (take most (strings ++ more)) i ≡ slice_get strings i
stored-get most strings more count i e lt = by_position (cases_lt i (length strings))
  where
    by_position : (i < length strings) ⊎ (length strings ≤ i) → slice_get (take most (strings ++ more)) i ≡ slice_get strings i
    by_position (inl near) = get-take most (strings ++ more) i (omega arith) ∙ get-append strings more i near
    by_position (inr past) =
        slice_get_past (take most (strings ++ more)) i (omega (arith, length-take most (strings ++ more)))
        ∙ sym (slice_get_past strings i past)

-- strings that are numbered by the randomness have the same pivots with more after both
pub pivot-before : (most : ℕ) (strings more : List (List Letter)) (free randomness : List Bool) (t : ℕ) → length strings ≡ min (ones free) most → t < length free
    → pivot_at (take most (strings ++ more)) (free ++ randomness) t ≡ pivot_at strings free t
pivot-before most strings more free randomness t e lt =
    pivot-equal (take most (strings ++ more)) strings (free ++ randomness) free t t (get_or_append_left free randomness false t lt)
    (λ is. ap (slice_get (take most (strings ++ more))) index ∙ stored-get most strings more (ones free) (ones (take t free)) e (ones-before free t is))
  where
    index : ones (take t (free ++ randomness)) ≡ ones (take t free)
    index = ap ones (take-append-le t free randomness (omega arith))

flag-here : (free : List Bool) (flag : Bool) → get_or (free ++ flag ∷ []) (length free) false ≡ flag
flag-here [] flag = refl
flag-here (b ∷ free) flag = flag-here free flag

front-here : (free : List Bool) (flag : Bool) → take (length free) (free ++ flag ∷ []) ≡ free
front-here [] flag = refl
front-here (b ∷ free) flag = ap (λ bits. b ∷ bits) (front-here free flag)

-- the next outcome has no pivot if it was fixed
pub pivot-fixed : (strings : List (List Letter)) (free : List Bool) → pivot_at strings (free ++ false ∷ []) (length free) ≡ None
pivot-fixed strings free =
    ap (λ b. if b then slice_get strings (ones (take (length free) (free ++ false ∷ []))) else None) (flag-here free false)

-- and if it was random the string that was put after the others, or none if no more are stored
pub pivot-random : (P : List Letter → Type 0) (most : ℕ) (strings : List (List Letter)) (s : List Letter) (free : List Bool)
    → length strings ≡ min (ones free) most → P s → IfSome (pivot_at (take most (strings ++ s ∷ [])) (free ++ true ∷ []) (length free)) P
pivot-random P most strings s free e is =
    subst (λ o. IfSome o P) (sym (ap (λ b. if b then slice_get (take most (strings ++ s ∷ [])) (ones (take (length free) (free ++ true ∷ []))) else None) (flag-here free true)
    ∙ ap (λ bits. slice_get (take most (strings ++ s ∷ [])) (ones bits)) (front-here free true))) (by_position (cases_lt (length strings) most))
  where
    by_position : (length strings < most) ⊎ (most ≤ length strings) → IfSome (slice_get (take most (strings ++ s ∷ [])) (ones free)) P
    by_position (inl more) =
        let i : ones free ≡ length strings + 0 = omega (arith, e, more) in
        subst (λ o. IfSome o P)
        (sym (get-take most (strings ++ s ∷ []) (ones free) (omega (arith, e, more)) ∙ ap (slice_get (strings ++ s ∷ [])) i ∙ get-following strings (s ∷ []) 0)) is
    by_position (inr full) =
        subst (λ o. IfSome o P)
        (sym (slice_get_past (take most (strings ++ s ∷ [])) (ones free) (omega (arith, length-take most (strings ++ s ∷ []), e, full)))) tt

-- outcomes after as many random ones as strings are stored have no pivots

pub if-none : (b : Bool) (o : Option (List Letter)) → o ≡ None → (if b then o else None) ≡ None
if-none true o e = e
if-none false o e = refl

pub pivot-past : (strings : List (List Letter)) (free more : List Bool) (t : ℕ) → length free ≤ t → length strings ≤ ones free → pivot_at strings (free ++ more) t ≡ None
pivot-past strings free more t le few =
    if-none (get_or (free ++ more) t false) (slice_get strings (ones (take t (free ++ more))))
    (slice_get_past strings (ones (take t (free ++ more))) (omega (arith, few, count)))
  where
    count : ones (take t (free ++ more)) ≡ ones free + ones (take (t - length free) more)
    count =
        ap (λ k. ones (take k (free ++ more))) {x = t} {y = length free + (t - length free)} (omega (arith, le))
        ∙ ap ones (take-append-add free more (t - length free))
        ∙ ones-append free (take (t - length free) more)

-- strings stay numbered

pub numbered-full : (stored : PivotsState) (free more : List Bool) → length stored.strings ≡ stored.most → IsNumbered stored free → IsNumbered stored (free ++ more)
numbered-full stored free more full e = omega (arith, full, e, ones-append free more)

pub numbered-fixed : (most : ℕ) (strings : List (List Letter)) (free : List Bool) → length strings ≡ min (ones free) most
    → length strings ≡ min (ones (free ++ false ∷ [])) most
numbered-fixed most strings free e = e ∙ ap (λ k. min k most) (sym (ones-append free (false ∷ []) ∙ none))
  where
    none : ones free + 0 ≡ ones free
    none = omega arith

pub numbered-random : (most : ℕ) (strings : List (List Letter)) (s : List Letter) (free : List Bool) → length strings ≡ min (ones free) most
    → length (take most (strings ++ s ∷ [])) ≡ min (ones (free ++ true ∷ [])) most
numbered-random most strings s free e =
    omega (arith, length-take most (strings ++ s ∷ []), length-append strings (s ∷ []), ones-append free (true ∷ []), e)

-- The pieces of a text: words between spacing, and parts between bytes.
use Rattle.stab_instructions.proofs.Names.{◌≡◌, ◌≤◌, ◌<◌, ℕ, ◌+◌, suc, Bool, true, false, not, List, [], ◌∷◌, length, take, drop, get_or, filter, refl, sym, ap, ◌∙◌, subst, arith, drop-cons, length-take, length-drop, if◌then◌else◌, ◌⊎◌, inl, inr, take_all, Option, Some, None, drop_all, slice_split, prefix_len, position_or_len, slice_split-cons_yes, slice_split_first, slice_split_none, prefix_len_stops, prefix_len-le-length, fails_before_first, is_spacing, trimmed_front, words, is_some_word, is_blank, not-false}
use Rattle.stab_instructions.proofs.BoolLemmas.{and_left, and_right}

-- spacing in front makes no word
pub words_spacing : (x : ℕ) (xs : List ℕ) → is_spacing x ≡ true → words (x ∷ xs) ≡ words xs
words_spacing x xs e = ap (filter is_some_word) (slice_split-cons_yes is_spacing x xs e)

-- spacing alone makes no words
pub blank_words : (bs : List ℕ) → is_blank bs ≡ true → words bs ≡ []
blank_words [] h = refl
blank_words (x ∷ xs) h = words_spacing x xs (and_left (is_spacing x) (is_blank xs) h) ∙ blank_words xs (and_right (is_spacing x) (is_blank xs) h)

-- the spacing in front may be cut
cut_front : (x : ℕ) (xs : List ℕ) (b : Bool) → is_spacing x ≡ b → words (trimmed_front xs) ≡ words xs
    → words (drop (if b then 1 + prefix_len is_spacing xs else 0) (x ∷ xs)) ≡ words (x ∷ xs)
cut_front x xs true e more =
    let one : 1 + prefix_len is_spacing xs ≡ suc (prefix_len is_spacing xs) = omega arith in
    ap (λ n. words (drop n (x ∷ xs))) one ∙ more ∙ sym (words_spacing x xs e)
cut_front x xs false e more = refl

pub words-trimmed_front : (bs : List ℕ) → words (trimmed_front bs) ≡ words bs
words-trimmed_front [] = refl
words-trimmed_front (x ∷ xs) = cut_front x xs (is_spacing x) refl (words-trimmed_front xs)

-- what is left without spacing in front doesn't begin with spacing
front_solid : (y : ℕ) (ys : List ℕ) (b : Bool) (x : ℕ) (xs : List ℕ) → is_spacing y ≡ b → (trimmed_front ys ≡ x ∷ xs → is_spacing x ≡ false)
    → drop (if b then 1 + prefix_len is_spacing ys else 0) (y ∷ ys) ≡ x ∷ xs → is_spacing x ≡ false
front_solid y ys true x xs e more h =
    let one : 1 + prefix_len is_spacing ys ≡ suc (prefix_len is_spacing ys) = omega arith in
    more (sym (ap (λ n. drop n (y ∷ ys)) one) ∙ h)
front_solid y ys false x xs e more h = let same : y ≡ x = cc in sym (ap is_spacing same) ∙ e

pub trimmed_front_solid : (bs : List ℕ) (x : ℕ) (xs : List ℕ) → trimmed_front bs ≡ x ∷ xs → is_spacing x ≡ false
trimmed_front_solid [] x xs e = cc
trimmed_front_solid (y ∷ ys) x xs e = front_solid y ys (is_spacing y) x xs refl (trimmed_front_solid ys x xs) e

-- up to, and there
pub le-cases : (n m : ℕ) → n ≤ m → (n < m) ⊎ (n ≡ m)
le-cases n m h = grind arith

-- a piece that another follows
pub pieces_more : (p : ℕ → Bool) (bs : List ℕ) (n : ℕ) → n ≡ position_or_len p bs → n < length bs → slice_split p bs ≡ take n bs ∷ slice_split p (drop (n + 1) bs)
pieces_more p bs n e h = subst (λ m. slice_split p bs ≡ take m bs ∷ slice_split p (drop (m + 1) bs)) (sym e) (slice_split_first p bs 0 (omega (arith, e)))

-- the last piece
pub pieces_last : (p : ℕ → Bool) (bs : List ℕ) (n : ℕ) → n ≡ position_or_len p bs → n ≡ length bs → slice_split p bs ≡ bs ∷ []
pieces_last p bs n e h = slice_split_none p bs (λ k d lt. let near : k < position_or_len p bs = omega (arith, e, h, lt) in fails_before_first p bs k d near)

some_retained : (w : List ℕ) (ws : List (List ℕ)) → 0 < length w → filter is_some_word (w ∷ ws) ≡ w ∷ filter is_some_word ws
some_retained [] ws h = absurd (omega arith)
some_retained (b ∷ bs) ws h = grind arith

position_solid : (x : ℕ) (xs : List ℕ) → is_spacing x ≡ false → 0 < position_or_len is_spacing (x ∷ xs)
position_solid x xs e = let one = ap (λ b. if not b then 1 + position_or_len is_spacing xs else 0) e in omega (arith, one)

-- if spacing follows, the rest begins after it
rest_spacing : (bs : List ℕ) (n : ℕ) → n ≡ position_or_len is_spacing bs → n < length bs → words (drop n bs) ≡ words (drop (n + 1) bs)
rest_spacing bs n e h =
    let here : position_or_len is_spacing bs < length bs = omega (arith, e, h) in
    let stop : not (is_spacing (get_or bs n 0)) ≡ false = ap (λ m. not (is_spacing (get_or bs m 0))) e ∙ prefix_len_stops (λ x. not (is_spacing x)) bs 0 here in
    let one : suc n ≡ n + 1 = omega arith in
    ap words (drop-cons bs n 0 h) ∙ words_spacing (get_or bs n 0) (drop (suc n) bs) (not-false (is_spacing (get_or bs n 0)) stop) ∙ ap (λ m. words (drop m bs)) one

-- the first word, and those after it
pub words_first : (bs : List ℕ) (x : ℕ) (xs : List ℕ) (n : ℕ) → bs ≡ x ∷ xs → is_spacing x ≡ false → n ≡ position_or_len is_spacing bs
    → words bs ≡ take n bs ∷ words (drop n bs)
words_first bs x xs n b e h =
    let some : 0 < n = omega (arith, h, subst (λ l. 0 < position_or_len is_spacing l) (sym b) (position_solid x xs e)) in
    let bound : n ≤ length bs = omega (arith, h, prefix_len-le-length (λ y. not (is_spacing y)) bs) in
    elim (le-cases n (length bs) bound) [
      | inl lt ↦ ap (filter is_some_word) (pieces_more is_spacing bs n h lt)
          ∙ some_retained (take n bs) (slice_split is_spacing (drop (n + 1) bs)) (omega (arith, length-take n bs))
          ∙ ap (λ ws. take n bs ∷ ws) (sym (rest_spacing bs n h lt))
      | inr whole ↦ ap (filter is_some_word) (pieces_last is_spacing bs n h whole)
          ∙ ap (λ l. filter is_some_word (l ∷ [])) (sym (ap (λ m. take m bs) whole ∙ take_all (length bs) bs (omega arith)))
          ∙ some_retained (take n bs) [] (omega (arith, length-take n bs))
          ∙ ap (λ l. take n bs ∷ words l) (sym (drop_all n bs (omega arith)))
    ]

first_of : (bs : List ℕ) → 0 < length bs → (x : ℕ) × (xs : List ℕ) × (bs ≡ x ∷ xs)
first_of [] h = absurd (omega arith)
first_of (x ∷ xs) h = (x, xs, refl)

none_of : (bs : List ℕ) → length bs ≡ 0 → words bs ≡ []
none_of [] h = refl
none_of (x ∷ xs) h = absurd (omega (arith, h))

-- what the search for a word finds
pub no_word : (bs front : List ℕ) → front ≡ trimmed_front bs → length front ≡ 0 → words bs ≡ []
no_word bs front e h = sym (words-trimmed_front bs) ∙ ap words (sym e) ∙ none_of front h

pub one_word : (bs front : List ℕ) (n : ℕ) → front ≡ trimmed_front bs → 0 < length front → n ≡ position_or_len is_spacing front → words bs ≡ take n front ∷ words (drop n front)
one_word bs front n e h p =
    let f = first_of front h in
    sym (words-trimmed_front bs)
    ∙ ap words (sym e)
    ∙ words_first front f.0 f.1 n f.2 (trimmed_front_solid bs f.0 f.1 (sym e ∙ f.2)) p

pub rest_shorter : (bs front : List ℕ) (n : ℕ) → front ≡ trimmed_front bs → 0 < length front → n ≡ position_or_len is_spacing front → length (drop n front) < length bs
rest_shorter bs front n e h p =
    let f = first_of front h in
    let some : 0 < position_or_len is_spacing front = subst (λ l. 0 < position_or_len is_spacing l) (sym f.2) (position_solid f.0 f.1 (trimmed_front_solid bs f.0 f.1 (sym e ∙ f.2))) in
    omega (arith, some, p, length-drop n front, ap length e, length-drop (prefix_len is_spacing bs) bs)

-- how much is left to be cut
abbrev pub left : Option (List ℕ) → ℕ
left None = 0
left (Some after) = length after + 1

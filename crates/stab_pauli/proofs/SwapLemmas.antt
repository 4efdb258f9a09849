-- Parts of a slice of words that are exchanged.
use Rattle.stab_pauli.proofs.Names.{◌≡◌, ℕ, ◌+◌, ◌-◌, ◌<◌, ◌≤◌, sym, ◌∙◌, ap, List, length, get_or, arith, inl, inr, ◌⊎◌, chunk, put_chunk, ext_get_or, cases_order, length-chunk, get_or-chunk, length-put_chunk, get_or-put_chunk_below, get_or-put_chunk_at, get_or-put_chunk_above, swapped_words}

-- before a part, in it, or after it
abbrev pub Side : ℕ → ℕ → ℕ → Type 0
Side a s i = ((i < a) ⊎ (a + s ≤ i)) ⊎ ((j : ℕ) × (j < s) × (i ≡ a + j))

pub position : (a s i : ℕ) → Side a s i
position a s i = by_front (cases_order i a)
  where
    inside : a ≤ i → (i ≡ a + s) ⊎ ((i < a + s) ⊎ (a + s < i)) → Side a s i
    inside le (inl e) = inl (inr (omega arith))
    inside le (inr (inl lt)) = inr (i - a, omega arith, omega arith)
    inside le (inr (inr gt)) = inl (inr (omega arith))

    by_front : (i ≡ a) ⊎ ((i < a) ⊎ (a < i)) → Side a s i
    by_front (inl e) = inside (omega arith) (cases_order i (a + s))
    by_front (inr (inl lt)) = inl (inl lt)
    by_front (inr (inr gt)) = inside (omega arith) (cases_order i (a + s))

-- a word outside a part that was written
pub get_or-outside : (a s : ℕ) (ws new : List ℕ) (i : ℕ) → length new ≡ s → (i < a) ⊎ (a + s ≤ i) → get_or (put_chunk a ws new) i 0 ≡ get_or ws i 0
get_or-outside a s ws new i l (inl lt) = get_or-put_chunk_below a ws new i 0 lt
get_or-outside a s ws new i l (inr le) = get_or-put_chunk_above a ws new i 0 (omega arith)

disjoint_second : (a b s j : ℕ) → (a + s ≤ b) ⊎ (b + s ≤ a) → j < s → (a + j < b) ⊎ (b + s ≤ a + j)
disjoint_second a b s j (inl h) lt = inl (omega arith)
disjoint_second a b s j (inr h) lt = inr (omega arith)

get_or-swapped_first : (a b s : ℕ) (ws : List ℕ) (j : ℕ) → a + s ≤ length ws → b + s ≤ length ws → (a + s ≤ b) ⊎ (b + s ≤ a) → j < s
    → get_or (swapped_words a b s ws) (a + j) 0 ≡ get_or ws (b + j) 0
get_or-swapped_first a b s ws j la lb h lt =
    get_or-outside b s (put_chunk a ws (chunk b s ws)) (chunk a s ws) (a + j) (length-chunk a s ws la) (disjoint_second a b s j h lt)
    ∙ get_or-put_chunk_at a ws (chunk b s ws) j 0 (rw (length-chunk b s ws lb) lt) (rw (length-chunk b s ws lb) la)
    ∙ get_or-chunk b s ws j 0 lt

get_or-swapped_second : (a b s : ℕ) (ws : List ℕ) (j : ℕ) → a + s ≤ length ws → b + s ≤ length ws → j < s
    → get_or (swapped_words a b s ws) (b + j) 0 ≡ get_or ws (a + j) 0
get_or-swapped_second a b s ws j la lb lt =
    get_or-put_chunk_at b (put_chunk a ws (chunk b s ws)) (chunk a s ws) j 0 (rw (length-chunk a s ws la) lt)
    (rw (length-chunk a s ws la, length-put_chunk a ws (chunk b s ws)) lb)
    ∙ get_or-chunk a s ws j 0 lt

get_or-swapped_other : (a b s : ℕ) (ws : List ℕ) (i : ℕ) → a + s ≤ length ws → b + s ≤ length ws → (i < a) ⊎ (a + s ≤ i) → (i < b) ⊎ (b + s ≤ i)
    → get_or (swapped_words a b s ws) i 0 ≡ get_or ws i 0
get_or-swapped_other a b s ws i la lb ha hb =
    get_or-outside b s (put_chunk a ws (chunk b s ws)) (chunk a s ws) i (length-chunk a s ws la) hb
    ∙ get_or-outside a s ws (chunk b s ws) i (length-chunk b s ws lb) ha

pub length-swapped : (a b s : ℕ) (ws : List ℕ) → length (swapped_words a b s ws) ≡ length ws
length-swapped a b s ws = length-put_chunk b (put_chunk a ws (chunk b s ws)) (chunk a s ws) ∙ length-put_chunk a ws (chunk b s ws)

-- swapping more words is swapping the next ones
pub swapped-more : (a b k m : ℕ) (ws : List ℕ) → a + (k + m) ≤ length ws → b + (k + m) ≤ length ws → (a + (k + m) ≤ b) ⊎ (b + (k + m) ≤ a)
    → swapped_words (a + k) (b + k) m (swapped_words a b k ws) ≡ swapped_words a b (k + m) ws
swapped-more a b k m ws la lb h =
    ext_get_or 0 (swapped_words (a + k) (b + k) m now) (swapped_words a b (k + m) ws)
    (length-swapped (a + k) (b + k) m now ∙ ln ∙ sym (length-swapped a b (k + m) ws))
    (λ i lt. at i (position a k i) (position b k i) (position (a + k) m i) (position (b + k) m i))
  where
    now : List ℕ
    now = swapped_words a b k ws

    ln : length now ≡ length ws
    ln = length-swapped a b k ws

    fa : a + k ≤ length ws
    fa = omega arith

    fb : b + k ≤ length ws
    fb = omega arith

    na : a + k + m ≤ length now
    na = omega (arith, ln)

    nb : b + k + m ≤ length now
    nb = omega (arith, ln)

    early : (a + k ≤ b) ⊎ (b + k ≤ a)
    early = from h
      where
        from : (a + (k + m) ≤ b) ⊎ (b + (k + m) ≤ a) → (a + k ≤ b) ⊎ (b + k ≤ a)
        from (inl e) = inl (omega arith)
        from (inr e) = inr (omega arith)

    late : (a + k + m ≤ b + k) ⊎ (b + k + m ≤ a + k)
    late = from h
      where
        from : (a + (k + m) ≤ b) ⊎ (b + (k + m) ≤ a) → (a + k + m ≤ b + k) ⊎ (b + k + m ≤ a + k)
        from (inl e) = inl (omega arith)
        from (inr e) = inr (omega arith)

    from_first : (j : ℕ) → j < k → (a + j < a + k) ⊎ (a + k + m ≤ a + j)
    from_first j lt = inl (omega arith)

    at : (i : ℕ) → Side a k i → Side b k i → Side (a + k) m i → Side (b + k) m i
        → get_or (swapped_words (a + k) (b + k) m now) i 0 ≡ get_or (swapped_words a b (k + m) ws) i 0
    at i (inr (j, lt, e)) pb pc pd = rw e
        (get_or-swapped_other (a + k) (b + k) m now (a + j) na nb (inl (omega arith)) (first_disjoint h)
        ∙ get_or-swapped_first a b k ws j fa fb early lt ∙ sym (get_or-swapped_first a b (k + m) ws j la lb h (omega arith)))
      where
        first_disjoint : (a + (k + m) ≤ b) ⊎ (b + (k + m) ≤ a) → (a + j < b + k) ⊎ (b + k + m ≤ a + j)
        first_disjoint (inl x) = inl (omega arith)
        first_disjoint (inr x) = inr (omega arith)
    at i (inl pa) (inr (j, lt, e)) pc pd = rw e
        (get_or-swapped_other (a + k) (b + k) m now (b + j) na nb (second_disjoint h) (inl (omega arith))
        ∙ get_or-swapped_second a b k ws j fa fb lt ∙ sym (get_or-swapped_second a b (k + m) ws j la lb (omega arith)))
      where
        second_disjoint : (a + (k + m) ≤ b) ⊎ (b + (k + m) ≤ a) → (b + j < a + k) ⊎ (a + k + m ≤ b + j)
        second_disjoint (inl x) = inr (omega arith)
        second_disjoint (inr x) = inl (omega arith)
    at i (inl pa) (inl pb) (inr (j, lt, e)) pd =
        let g : a + k + j ≡ a + (k + j) = omega arith in
        let g' : b + k + j ≡ b + (k + j) = omega arith in
        rw e
        (get_or-swapped_first (a + k) (b + k) m now j na nb late lt
        ∙ get_or-swapped_other a b k ws (b + k + j) fa fb (later_disjoint h) (inr (omega arith))
        ∙ ap (λ n. get_or ws n 0) g'
        ∙ sym (get_or-swapped_first a b (k + m) ws (k + j) la lb h (omega arith))
        ∙ ap (λ n. get_or (swapped_words a b (k + m) ws) n 0) (sym g))
      where
        later_disjoint : (a + (k + m) ≤ b) ⊎ (b + (k + m) ≤ a) → (b + k + j < a) ⊎ (a + k ≤ b + k + j)
        later_disjoint (inl x) = inr (omega arith)
        later_disjoint (inr x) = inl (omega arith)
    at i (inl pa) (inl pb) (inl pc) (inr (j, lt, e)) =
        let g : b + k + j ≡ b + (k + j) = omega arith in
        let g' : a + k + j ≡ a + (k + j) = omega arith in
        rw e
        (get_or-swapped_second (a + k) (b + k) m now j na nb lt
        ∙ get_or-swapped_other a b k ws (a + k + j) fa fb (inr (omega arith)) (later_disjoint h)
        ∙ ap (λ n. get_or ws n 0) g'
        ∙ sym (get_or-swapped_second a b (k + m) ws (k + j) la lb (omega arith))
        ∙ ap (λ n. get_or (swapped_words a b (k + m) ws) n 0) (sym g))
      where
        later_disjoint : (a + (k + m) ≤ b) ⊎ (b + (k + m) ≤ a) → (a + k + j < b) ⊎ (b + k ≤ a + k + j)
        later_disjoint (inl x) = inl (omega arith)
        later_disjoint (inr x) = inr (omega arith)
    at i (inl pa) (inl pb) (inl pc) (inl pd) =
        get_or-swapped_other (a + k) (b + k) m now i na nb pc pd
        ∙ get_or-swapped_other a b k ws i fa fb pa pb
        ∙ sym (get_or-swapped_other a b (k + m) ws i la lb (wider a pa pc) (wider b pb pd))
      where
        wider : (c : ℕ) → (i < c) ⊎ (c + k ≤ i) → (i < c + k) ⊎ (c + k + m ≤ i) → (i < c) ⊎ (c + (k + m) ≤ i)
        wider c (inl x) q = inl x
        wider c (inr x) (inl y) = absurd (omega arith)
        wider c (inr x) (inr y) = inr (omega arith)

pub swapped-none : (a b : ℕ) (ws : List ℕ) → a ≤ length ws → b ≤ length ws → swapped_words a b 0 ws ≡ ws
swapped-none a b ws la lb =
    ext_get_or 0 (swapped_words a b 0 ws) ws (length-swapped a b 0 ws)
    (λ i lt. get_or-swapped_other a b 0 ws i (omega arith) (omega arith) (outside a i (cases_order i a)) (outside b i (cases_order i b)))
  where
    outside : (c i : ℕ) → (i ≡ c) ⊎ ((i < c) ⊎ (c < i)) → (i < c) ⊎ (c + 0 ≤ i)
    outside c i (inl e) = inr (omega arith)
    outside c i (inr (inl lt)) = inl lt
    outside c i (inr (inr gt)) = inr (omega arith)

-- parts that do not overlap
pub earlier : (a b k s : ℕ) → k ≤ s → (a + s ≤ b) ⊎ (b + s ≤ a) → (a + k ≤ b) ⊎ (b + k ≤ a)
earlier a b k s le (inl h) = inl (omega arith)
earlier a b k s le (inr h) = inr (omega arith)

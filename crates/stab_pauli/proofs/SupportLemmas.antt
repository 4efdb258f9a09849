-- Products by a walk over the blocks that a mask names, if all others are letters I.
use Rattle.stab_pauli.proofs.Names.{◌≡◌, ◌≢◌, ℕ, zero, suc, ◌+◌, ◌*◌, ◌/◌, ◌%◌, ◌<◌, ◌≤◌, Bool, true, false, refl, sym, ◌∙◌, ap, subst, List, [], ◌∷◌, length, get_or, take, drop, replicate, arith, inl, inr, ◌⊎◌, bit_xor, xor_zero_r, chunk, put_chunk, cases_order, ext_get_or, append-nil, drop-drop, get_or-zip2, length-zip2, length-chunk, get_or-chunk, length-put_chunk, get_or-put_chunk_at, Letter, I, X, Y, Z, ◌⊕◌, chooses, packed_letters, xor_words, word_odd, words_odd, letters_meet, strings_meet, row_letters, CoversLetters, parity-false, parity-assoc, parity-comm}
use Rattle.stab_pauli.proofs.MaskLemmas.{clash, none-chosen}
use Rattle.stab_pauli.proofs.PowerLemmas.{strings_meet-append}
use Rattle.stab_pauli.proofs.PackedLemmas.{length-packed}
use Rattle.stab_pauli.proofs.RowLemmas.{length-front, length-second, length-rest}
use Rattle.stab_pauli.proofs.PositionLemmas.{same_or_not}
use Rattle.stab_pauli.proofs.BlankLemmas.{row-none}
use Rattle.stab_pauli.proofs.SwapLemmas.{get_or-outside}
use Rattle.stab_pauli.proofs.BlockLemmas.{chunk-in, length-product, get_or-product}

-- the parity of bits

-- of the first m
abbrev pub parity : ℕ → (ℕ → Bool) → Bool
parity zero f = false
parity (suc m) f = f 0 ⊕ parity m (λ b. f (suc b))

parity-same : (m : ℕ) (f g : ℕ → Bool) → ((b : ℕ) → b < m → f b ≡ g b) → parity m f ≡ parity m g
parity-same zero f g e = refl
parity-same (suc m) f g e = λ i. e 0 (omega arith) i ⊕ parity-same m (λ b. f (suc b)) (λ b. g (suc b)) (λ b lt. e (suc b) (omega arith)) i

parity-none : (m : ℕ) (f : ℕ → Bool) → ((b : ℕ) → f b ≡ false) → parity m f ≡ false
parity-none zero f e = refl
parity-none (suc m) f e = λ i. e 0 i ⊕ parity-none m (λ b. f (suc b)) (λ b. e (suc b)) i

parity-left : (a b c : Bool) → a ⊕ (b ⊕ c) ≡ b ⊕ (a ⊕ c)
parity-left a b c = sym (parity-assoc a b c) ∙ ap (λ t. t ⊕ c) (parity-comm a b) ∙ parity-assoc b a c

-- without one of them
parity-without : (m k : ℕ) (f g : ℕ → Bool) → k < m → g k ≡ false → ((b : ℕ) → b ≢ k → b < m → g b ≡ f b) → parity m f ≡ f k ⊕ parity m g
parity-without zero k f g lt gone same = absurd (omega arith)
parity-without (suc m) zero f g lt gone same =
    ap (λ t. f 0 ⊕ t)
    (parity-same m (λ b. f (suc b)) (λ b. g (suc b)) (λ b l. sym (same (suc b) (λ e. omega arith) (omega arith)))
    ∙ sym (ap (λ t. t ⊕ parity m (λ b. g (suc b))) gone))
parity-without (suc m) (suc k) f g lt gone same =
    ap (λ t. f 0 ⊕ t) (parity-without m k (λ b. f (suc b)) (λ b. g (suc b)) (omega arith) gone (λ b ne l. same (suc b) (λ e. ne (omega arith)) (omega arith)))
    ∙ parity-left (f 0) (f (suc k)) (parity m (λ b. g (suc b)))
    ∙ ap (λ t. f (suc k) ⊕ (t ⊕ parity m (λ b. g (suc b)))) (sym (same 0 (λ e. omega arith) (omega arith)))

-- a bit if another is 1, and else 0
abbrev pub where_chosen : Bool → Bool → Bool
where_chosen false b = false
where_chosen true b = b

where_chosen-all : (c b : Bool) → (c ≡ false → b ≡ false) → where_chosen c b ≡ b
where_chosen-all false b none = sym (none refl)
where_chosen-all true b none = refl

-- the blocks of a row

-- whether bits of a block of one row meet bits of that of another
abbrev pub block_meets : List ℕ → List ℕ → ℕ → Bool
block_meets p q b = strings_meet (row_letters 1 (chunk (8 * b) 8 p)) (row_letters 1 (chunk (8 * b) 8 q))

first-block : (m : ℕ) (p : List ℕ) → length p ≡ 8 * suc m → row_letters 1 (chunk 0 8 p) ≡ packed_letters 64 (take 4 p) (take 4 (drop 4 p))
first-block m p l =
    append-nil (packed_letters 64 (chunk 0 4 (chunk 0 8 p)) (chunk 4 4 (chunk 0 8 p)))
    ∙ (λ i. packed_letters 64 (chunk-in 0 8 0 4 p (omega arith) (omega arith) i) (chunk-in 0 8 4 4 p (omega arith) (omega arith) i))

block-following : (b : ℕ) (p : List ℕ) → chunk (8 * b) 8 (drop 8 p) ≡ chunk (8 * suc b) 8 p
block-following b p = let e : 8 + 8 * b ≡ 8 * suc b = omega arith in ap (take 8) (drop-drop (8 * b) 8 p ∙ ap (λ n. drop n p) e)

-- the bits of rows meet as often as those of their blocks
meets-blocks : (m : ℕ) (p q : List ℕ) → length p ≡ 8 * m → length q ≡ 8 * m → strings_meet (row_letters m p) (row_letters m q) ≡ parity m (block_meets p q)
meets-blocks zero p q lp lq = refl
meets-blocks (suc m) p q lp lq =
    strings_meet-append (front p) (front q) (row_letters m (drop 8 p)) (row_letters m (drop 8 q)) (long p lp ∙ sym (long q lq))
    ∙ (λ i. strings_meet (sym (first-block m p lp) i) (sym (first-block m q lq) i) ⊕ meets-blocks m (drop 8 p) (drop 8 q) (length-rest m p lp) (length-rest m q lq) i)
    ∙ ap (λ t. block_meets p q 0 ⊕ t)
    (parity-same m (block_meets (drop 8 p) (drop 8 q)) (λ b. block_meets p q (suc b))
    (λ b lt. λ i. strings_meet (row_letters 1 (block-following b p i)) (row_letters 1 (block-following b q i))))
  where
    front : List ℕ → List Letter
    front row = packed_letters 64 (take 4 row) (take 4 (drop 4 row))

    long : (row : List ℕ) → length row ≡ 8 * suc m → length (front row) ≡ 4 * 64
    long row l = length-packed 64 (take 4 row) (take 4 (drop 4 row)) (length-front m row l ∙ sym (length-second m row l)) ∙ ap (λ n. n * 64) (length-front m row l)

-- a block that is written
block-here : (b : ℕ) (ws new : List ℕ) → length new ≡ 8 → 8 * b + 8 ≤ length ws → chunk (8 * b) 8 (put_chunk (8 * b) ws new) ≡ new
block-here b ws new l fits =
    ext_get_or 0 (chunk (8 * b) 8 (put_chunk (8 * b) ws new)) new (size ∙ sym l)
    (λ j lt. get_or-chunk (8 * b) 8 (put_chunk (8 * b) ws new) j 0 (omega (arith, size)) ∙ get_or-put_chunk_at (8 * b) ws new j 0 (omega (arith, size, l)) (omega (arith, l)))
  where
    size : length (chunk (8 * b) 8 (put_chunk (8 * b) ws new)) ≡ 8
    size = length-chunk (8 * b) 8 (put_chunk (8 * b) ws new) (omega (arith, length-put_chunk (8 * b) ws new))

block-other : (a b : ℕ) (ws new : List ℕ) → length new ≡ 8 → 8 * b + 8 ≤ length ws → b ≢ a → chunk (8 * b) 8 (put_chunk (8 * a) ws new) ≡ chunk (8 * b) 8 ws
block-other a b ws new l fits ne =
    ext_get_or 0 (chunk (8 * b) 8 (put_chunk (8 * a) ws new)) (chunk (8 * b) 8 ws) (size ∙ sym (length-chunk (8 * b) 8 ws fits))
    (λ j lt.
    get_or-chunk (8 * b) 8 (put_chunk (8 * a) ws new) j 0 (omega (arith, size))
    ∙ get_or-outside (8 * a) 8 ws new (8 * b + j) l (outside j (omega (arith, size)) (cases_order b a))
    ∙ sym (get_or-chunk (8 * b) 8 ws j 0 (omega (arith, size))))
  where
    size : length (chunk (8 * b) 8 (put_chunk (8 * a) ws new)) ≡ 8
    size = length-chunk (8 * b) 8 (put_chunk (8 * a) ws new) (omega (arith, length-put_chunk (8 * a) ws new))

    outside : (j : ℕ) → j < 8 → (b ≡ a) ⊎ ((b < a) ⊎ (a < b)) → (8 * b + j < 8 * a) ⊎ (8 * a + 8 ≤ 8 * b + j)
    outside j lt (inl e) = absurd (ne e)
    outside j lt (inr (inl less)) = inl (omega arith)
    outside j lt (inr (inr more)) = inr (omega arith)

-- blocks of letters I

xor-blank : (n : ℕ) (ws : List ℕ) → length ws ≡ n → xor_words ws (replicate n 0) ≡ ws
xor-blank zero [] l = refl
xor-blank zero (w ∷ ws) l = absurd (omega arith)
xor-blank (suc n) [] l = absurd (omega arith)
xor-blank (suc n) (w ∷ ws) l = λ i. xor_zero_r w i ∷ xor-blank n ws (omega arith) i

letters_meet-blank : (x : Letter) → letters_meet x I ≡ false
letters_meet-blank I = refl
letters_meet-blank X = refl
letters_meet-blank Y = refl
letters_meet-blank Z = refl

strings_meet-blank_right : (p : List Letter) (n : ℕ) → strings_meet p (replicate n I) ≡ false
strings_meet-blank_right [] n = refl
strings_meet-blank_right (x ∷ p) zero = refl
strings_meet-blank_right (x ∷ p) (suc n) = λ i. letters_meet-blank x i ⊕ strings_meet-blank_right p n i

meets-blank : (p q : List ℕ) (b : ℕ) → chunk (8 * b) 8 q ≡ replicate 8 0 → block_meets p q b ≡ false
meets-blank p q b blank =
    ap (strings_meet (row_letters 1 (chunk (8 * b) 8 p))) (row-none 1 (chunk (8 * b) 8 q) blank)
    ∙ strings_meet-blank_right (row_letters 1 (chunk (8 * b) 8 p)) (256 * 1)

-- the walk

word_odd-none : (k : ℕ) → word_odd k 0 ≡ false
unfolding word_odd
word_odd-none zero = refl
word_odd-none (suc k) = word_odd-none k

-- at first no bits have met
pub words_odd-none : (k n : ℕ) → words_odd k (replicate n 0) ≡ false
words_odd-none k zero = refl
words_odd-none k (suc n) = λ i. word_odd-none k i ⊕ words_odd-none k n i

-- the blocks of p are multiplied by those of q except those that are left in the rest of the mask, and whether the bits of these
-- others met at an odd number of positions
pub record IsTimesBut (m rest : ℕ) (p q : List ℕ) (odd : Bool) (now : List ℕ) : Type 0 where
  pub size : length now ≡ length p
  pub within : (b : ℕ) → b < 64 → chooses rest b ≡ true → b < m
  pub done : (b : ℕ) → b < m → chooses rest b ≡ false → chunk (8 * b) 8 now ≡ xor_words (chunk (8 * b) 8 p) (chunk (8 * b) 8 q)
  pub left : (b : ℕ) → b < m → chooses rest b ≡ true → chunk (8 * b) 8 now ≡ chunk (8 * b) 8 p
  pub meets : odd ⊕ parity m (λ b. where_chosen (chooses rest b) (block_meets p q b)) ≡ strings_meet (row_letters m p) (row_letters m q)

module _ (m : ℕ) (p q : List ℕ) (lp : length p ≡ 8 * m) (lq : length q ≡ 8 * m) where
  pub times-none : (mask : ℕ) → CoversLetters m mask q → IsTimesBut m mask p q false p
  times-none mask covers = record {
    size = refl;
    within = covers.within;
    done = λ b lt none. sym (ap (xor_words (chunk (8 * b) 8 p)) (covers.blank b lt none) ∙ xor-blank 8 (chunk (8 * b) 8 p) (length-chunk (8 * b) 8 p (omega arith)));
    left = λ b lt one. refl;
    meets = parity-same m (λ b. where_chosen (chooses mask b) (block_meets p q b)) (block_meets p q)
        (λ b lt. where_chosen-all (chooses mask b) (block_meets p q b) (λ none. meets-blank p q b (covers.blank b lt none)))
        ∙ sym (meets-blocks m p q lp lq);
  }

  -- one block further
  module _ (few : m ≤ 64) (rest : ℕ) (odd : Bool) (now : List ℕ) (walked : IsTimesBut m rest p q odd now) (k : ℕ) (lk : k < 64) (one : chooses rest k ≡ true)
      (new : List ℕ) (made : new ≡ put_chunk (8 * k) now (xor_words (chunk (8 * k) 8 now) (chunk (8 * k) 8 q)))
      (meet both : Bool) (met : meet ≡ block_meets now q k) (with_meet : both ≡ odd ⊕ meet)
      (next : ℕ) (gone : chooses next k ≡ false) (others : (j : ℕ) → j ≢ k → j < 64 → chooses next j ≡ chooses rest j) where
    in_row : k < m
    in_row = walked.within k lk one

    product : List ℕ
    product = xor_words (chunk (8 * k) 8 now) (chunk (8 * k) 8 q)

    product_size : length product ≡ 8
    unfolding product
    product_size = length-product (8 * k) (8 * k) 8 now q (let s = walked.size in let l = in_row in omega arith) (let l = in_row in omega arith)

    here : chunk (8 * k) 8 new ≡ xor_words (chunk (8 * k) 8 p) (chunk (8 * k) 8 q)
    unfolding product
    here =
        ap (chunk (8 * k) 8) made ∙ block-here k now product product_size (let s = walked.size in let l = in_row in omega arith)
        ∙ ap (λ w. xor_words w (chunk (8 * k) 8 q)) (walked.left k in_row one)

    there : (b : ℕ) → b < m → b ≢ k → chunk (8 * b) 8 new ≡ chunk (8 * b) 8 now
    unfolding product
    there b lb ne = ap (chunk (8 * b) 8) made ∙ block-other k b now product product_size (let s = walked.size in omega arith) ne

    within-next : (b : ℕ) → b < 64 → chooses next b ≡ true → b < m
    within-next b lb chosen = by_position (same_or_not b k)
      where
        by_position : (b ≡ k) ⊎ (b ≢ k) → b < m
        by_position (inl e) = let l = in_row in omega arith
        by_position (inr ne) = walked.within b lb (sym (others b ne lb) ∙ chosen)

    done-next : (b : ℕ) → b < m → chooses next b ≡ false → chunk (8 * b) 8 new ≡ xor_words (chunk (8 * b) 8 p) (chunk (8 * b) 8 q)
    done-next b lb none = by_position (same_or_not b k)
      where
        by_position : (b ≡ k) ⊎ (b ≢ k) → chunk (8 * b) 8 new ≡ xor_words (chunk (8 * b) 8 p) (chunk (8 * b) 8 q)
        by_position (inl e) = subst (λ j. chunk (8 * j) 8 new ≡ xor_words (chunk (8 * j) 8 p) (chunk (8 * j) 8 q)) (sym e) here
        by_position (inr ne) = there b lb ne ∙ walked.done b lb (sym (others b ne (omega arith)) ∙ none)

    left-next : (b : ℕ) → b < m → chooses next b ≡ true → chunk (8 * b) 8 new ≡ chunk (8 * b) 8 p
    left-next b lb chosen = by_position (same_or_not b k)
      where
        by_position : (b ≡ k) ⊎ (b ≢ k) → chunk (8 * b) 8 new ≡ chunk (8 * b) 8 p
        by_position (inl e) = clash (chooses next k) (ap (chooses next) (sym e) ∙ chosen) gone
        by_position (inr ne) = there b lb ne ∙ walked.left b lb (sym (others b ne (omega arith)) ∙ chosen)

    among : ℕ → ℕ → Bool
    among mask b = where_chosen (chooses mask b) (block_meets p q b)

    among-here : among rest k ≡ meet
    unfolding among
    among-here =
        ap (λ c. where_chosen c (block_meets p q k)) one
        ∙ ap (λ w. strings_meet (row_letters 1 w) (row_letters 1 (chunk (8 * k) 8 q))) (sym (walked.left k in_row one)) ∙ sym met

    meets-next : (odd ⊕ meet) ⊕ parity m (among next) ≡ strings_meet (row_letters m p) (row_letters m q)
    unfolding among
    meets-next =
        parity-assoc odd meet (parity m (among next))
        ∙ ap (λ t. odd ⊕ t)
        (ap (λ t. t ⊕ parity m (among next)) (sym among-here)
        ∙ sym (parity-without m k (among rest) (among next) in_row (ap (λ c. where_chosen c (block_meets p q k)) gone)
        (λ b ne lb. ap (λ c. where_chosen c (block_meets p q b)) (others b ne (omega arith)))))
        ∙ walked.meets

    pub times-more : IsTimesBut m next p q both new
    unfolding among
    times-more = record {
      size = ap length made ∙ length-put_chunk (8 * k) now (xor_words (chunk (8 * k) 8 now) (chunk (8 * k) 8 q)) ∙ walked.size;
      within = within-next;
      done = done-next;
      left = left-next;
      meets = ap (λ t. t ⊕ parity m (among next)) with_meet ∙ meets-next;
    }

  -- none is left
  module _ (rest : ℕ) (none : rest ≡ 0) (odd : Bool) (now : List ℕ) (walked : IsTimesBut m rest p q odd now) where
    left_out : (b : ℕ) → chooses rest b ≡ false
    left_out b = ap (λ n. chooses n b) none ∙ none-chosen b

    pub times-words : now ≡ xor_words p q
    times-words =
        ext_get_or 0 now (xor_words p q) (walked.size ∙ sym (length-zip2 bit_xor p q (lp ∙ sym lq)))
        (λ j lt. at j (let s = walked.size in omega arith))
      where
        at : (j : ℕ) → j < 8 * m → get_or now j 0 ≡ get_or (xor_words p q) j 0
        at j lt =
            let b = j / 8 in
            let i = j % 8 in
            let lb : b < m = omega arith in
            let li : i < 8 = omega arith in
            let e : j ≡ 8 * b + i = omega arith in
            ap (λ n. get_or now n 0) e
            ∙ sym (get_or-chunk (8 * b) 8 now i 0 li)
            ∙ ap (λ w. get_or w i 0) (walked.done b lb (left_out b))
            ∙ get_or-product (8 * b) (8 * b) 8 p q (omega arith) (omega arith) i li
            ∙ ap (λ n. bit_xor (get_or p n 0) (get_or q n 0)) (sym e)
            ∙ sym (get_or-zip2 bit_xor p q j 0 0 0 (omega arith) (omega arith))

    pub times-meet : odd ≡ strings_meet (row_letters m p) (row_letters m q)
    times-meet =
        sym (parity-false odd)
        ∙ ap (λ t. odd ⊕ t) (sym (parity-none m (λ b. where_chosen (chooses rest b) (block_meets p q b)) (λ b. ap (λ c. where_chosen c (block_meets p q b)) (left_out b))))
        ∙ walked.meets

-- the mask

-- it covers the letters of the blocks before one, and chooses none from that one on
pub record CoversBefore (k mask : ℕ) (row : List ℕ) : Type 0 where
  pub within : (b : ℕ) → chooses mask b ≡ true → b < k
  pub blank : (b : ℕ) → b < k → chooses mask b ≡ false → chunk (8 * b) 8 row ≡ replicate 8 0

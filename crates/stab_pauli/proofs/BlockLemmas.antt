-- One block multiplied by another, of the same slice of words or of its own.
use Rattle.stab_pauli.proofs.Names.{◌≡◌, ℕ, ◌+◌, ◌*◌, ◌<◌, ◌≤◌, refl, sym, ◌∙◌, ap, List, ◌++◌, length, get_or, take, drop, inl, inr, arith, bit_xor, bit_and, zip2, chunk, put_chunk, mul-le-mul_left, take-append_seam, drop-append_seam, ext_get_or, take_all, get_or-zip2, length-zip2, length-chunk, get_or-chunk, length-put_chunk, get_or-put_chunk_below, get_or-put_chunk_at, get_or-put_chunk_above, Zero, phase_of_sign, words_odd, xor_words, strings_meet, row_letters, phase_of_sign-injective}
use Rattle.stab_pauli.proofs.PackedLemmas.{packed_meet}
use Rattle.stab_pauli.proofs.SwapLemmas.{Side, position}
use Rattle.stab_pauli.proofs.RowLemmas.{AddsUp-meet, IsPhaseBefore-more, IsPhaseBefore-all}

-- a part of a part
pub chunk-in : (a m i s : ℕ) (ws : List ℕ) → i + s ≤ m → a + m ≤ length ws → chunk i s (chunk a m ws) ≡ chunk (a + i) s ws
chunk-in a m i s ws le fits =
    ext_get_or 0 (chunk i s (chunk a m ws)) (chunk (a + i) s ws) (l ∙ sym (length-chunk (a + i) s ws (omega arith)))
    (λ j lt.
    let e : a + (i + j) ≡ a + i + j = omega arith in
    get_or-chunk i s (chunk a m ws) j 0 (omega (arith, l)) ∙ get_or-chunk a m ws (i + j) 0 (omega (arith, l))
    ∙ ap (λ n. get_or ws n 0) e ∙ sym (get_or-chunk (a + i) s ws j 0 (omega (arith, l))))
  where
    l : length (chunk i s (chunk a m ws)) ≡ s
    l = length-chunk i s (chunk a m ws) (let e = length-chunk a m ws fits in omega arith)

-- where the words of eight rows from row a on lie
pub part-inside : (m a count : ℕ) → a + 8 ≤ count → 8 * m * a + 8 * m * 8 ≤ 8 * m * count
part-inside m a count le =
    let e : 8 * m * a + 8 * m * 8 ≡ 8 * m * (a + 8) = grind arith in
    let more = mul-le-mul_left (8 * m) le in
    omega (arith, e, more)

-- a row of these
pub part-row : (m a k : ℕ) (ws part : List ℕ) → k < 8 → 8 * m * a + 8 * m * 8 ≤ length ws → part ≡ chunk (8 * m * a) (8 * m * 8) ws
    → chunk (8 * m * k) (8 * m) part ≡ chunk (8 * m * (a + k)) (8 * m) ws
part-row m a k ws part lt fits e =
    let row : 8 * m * k + 8 * m ≡ 8 * m * (k + 1) = grind arith in
    let inside : 8 * m * (k + 1) ≤ 8 * m * 8 = mul-le-mul_left (8 * m) (let h : k + 1 ≤ 8 = omega (arith, lt) in h) in
    let at : 8 * m * a + 8 * m * k ≡ 8 * m * (a + k) = grind arith in
    ap (chunk (8 * m * k) (8 * m)) e ∙ chunk-in (8 * m * a) (8 * m * 8) (8 * m * k) (8 * m) ws (omega (arith, row, inside)) fits ∙ ap (λ n. chunk n (8 * m) ws) at

-- the words of a product of two parts
module _ (a b s : ℕ) (ws others : List ℕ) (la : a + s ≤ length ws) (lb : b + s ≤ length others) where
  pub length-product : length (xor_words (chunk a s ws) (chunk b s others)) ≡ s
  length-product = length-zip2 bit_xor (chunk a s ws) (chunk b s others) (length-chunk a s ws la ∙ sym (length-chunk b s others lb)) ∙ length-chunk a s ws la

  pub get_or-product : (j : ℕ) → j < s → get_or (xor_words (chunk a s ws) (chunk b s others)) j 0 ≡ bit_xor (get_or ws (a + j) 0) (get_or others (b + j) 0)
  get_or-product j lt =
      get_or-zip2 bit_xor (chunk a s ws) (chunk b s others) j 0 0 0 (rw (length-chunk a s ws la) lt) (rw (length-chunk b s others lb) lt)
      ∙ (λ i. bit_xor (get_or-chunk a s ws j 0 lt i) (get_or-chunk b s others j 0 lt i))

-- two halves of a product are written one after the other
module _ (a b s : ℕ) (ws others : List ℕ) (la : a + (s + s) ≤ length ws) (lb : b + (s + s) ≤ length others) where
  first : List ℕ
  first = xor_words (chunk a s ws) (chunk b s others)

  second : List ℕ
  second = xor_words (chunk (a + s) s ws) (chunk (b + s) s others)

  whole : List ℕ
  whole = xor_words (chunk a (s + s) ws) (chunk b (s + s) others)

  first_size : length first ≡ s
  unfolding first
  first_size = length-product a b s ws others (omega arith) (omega arith)

  second_size : length second ≡ s
  unfolding second
  second_size = length-product (a + s) (b + s) s ws others (omega arith) (omega arith)

  whole_size : length whole ≡ s + s
  unfolding whole
  whole_size = length-product a b (s + s) ws others la lb

  in_first : (j : ℕ) → j < s → get_or first j 0 ≡ get_or whole j 0
  unfolding first whole
  in_first j lt = get_or-product a b s ws others (omega arith) (omega arith) j lt ∙ sym (get_or-product a b (s + s) ws others la lb j (omega arith))

  in_second : (j : ℕ) → j < s → get_or second j 0 ≡ get_or whole (s + j) 0
  unfolding second whole
  in_second j lt =
      let e : a + s + j ≡ a + (s + j) = omega arith in
      let f : b + s + j ≡ b + (s + j) = omega arith in
      get_or-product (a + s) (b + s) s ws others (omega arith) (omega arith) j lt
      ∙ (λ i. bit_xor (get_or ws (e i) 0) (get_or others (f i) 0))
      ∙ sym (get_or-product a b (s + s) ws others la lb (s + j) (omega arith))

  half : List ℕ
  half = put_chunk a ws first

  half_size : length half ≡ length ws
  unfolding half
  half_size = length-put_chunk a ws first

  by_position : (k : ℕ) → Side a s k → Side (a + s) s k → get_or (put_chunk (a + s) half second) k 0 ≡ get_or (put_chunk a ws whole) k 0
  unfolding half
  by_position k (inr (j, lt, e)) p = rw e
      (get_or-put_chunk_below (a + s) half second (a + j) 0 (omega arith)
      ∙ get_or-put_chunk_at a ws first j 0 (rw first_size lt) (rw first_size (omega arith))
      ∙ in_first j lt
      ∙ sym (get_or-put_chunk_at a ws whole j 0 (omega (arith, whole_size)) (omega (arith, whole_size))))
  by_position k (inl p) (inr (j, lt, e)) =
      let f : a + s + j ≡ a + (s + j) = omega arith in
      rw e
      (get_or-put_chunk_at (a + s) half second j 0 (rw second_size lt) (omega (arith, second_size, half_size))
      ∙ in_second j lt
      ∙ sym (get_or-put_chunk_at a ws whole (s + j) 0 (omega (arith, whole_size)) (omega (arith, whole_size)))
      ∙ ap (λ n. get_or (put_chunk a ws whole) n 0) (sym f))
  by_position k (inl (inl lt)) (inl q) =
      get_or-put_chunk_below (a + s) half second k 0 (omega arith) ∙ get_or-put_chunk_below a ws first k 0 lt
      ∙ sym (get_or-put_chunk_below a ws whole k 0 lt)
  by_position k (inl (inr le)) (inl (inl lt)) = absurd (omega arith)
  by_position k (inl (inr le)) (inl (inr more)) =
      get_or-put_chunk_above (a + s) half second k 0 (omega (arith, second_size)) ∙ get_or-put_chunk_above a ws first k 0 (omega (arith, first_size))
      ∙ sym (get_or-put_chunk_above a ws whole k 0 (omega (arith, whole_size)))

  pub product-halves : put_chunk (a + s) (put_chunk a ws (xor_words (chunk a s ws) (chunk b s others))) (xor_words (chunk (a + s) s ws) (chunk (b + s) s others))
      ≡ put_chunk a ws (xor_words (chunk a (s + s) ws) (chunk b (s + s) others))
  unfolding first second whole half
  product-halves =
      ext_get_or 0 (put_chunk (a + s) half second) (put_chunk a ws whole)
      (length-put_chunk (a + s) half second ∙ half_size ∙ sym (length-put_chunk a ws whole))
      (λ k lt. by_position k (position a s k) (position (a + s) s k))

-- whether the Z bits of a block meet the X bits of another
pub block-meet : (a b : ℕ) (ws others x z other_x other_z : List ℕ) → a + 8 ≤ length ws → b + 8 ≤ length others
    → x ≡ chunk a 4 ws → z ≡ chunk (a + 4) 4 ws → other_x ≡ chunk b 4 others → other_z ≡ chunk (b + 4) 4 others
    → words_odd 64 (zip2 bit_and z other_x) ≡ strings_meet (row_letters 1 (chunk a 8 ws)) (row_letters 1 (chunk b 8 others))
block-meet a b ws others x z other_x other_z la lb ex ez eox eoz =
    phase_of_sign-injective _ _
    (IsPhaseBefore-all AddsUp-meet 1 (chunk a 8 ws) (chunk b 8 others) 1 (phase_of_sign (words_odd 64 (zip2 bit_and z other_x))) (omega arith)
    (IsPhaseBefore-more AddsUp-meet 1 (chunk a 8 ws) (chunk b 8 others) 0 Zero (phase_of_sign (words_odd 64 (zip2 bit_and z other_x))) x z other_x other_z (length-chunk a 8 ws la) (length-chunk b 8 others lb) (omega arith)
    (ex ∙ low ws a la) (ez ∙ sym (chunk-in a 8 4 4 ws (omega arith) la)) (eox ∙ low others b lb) (eoz ∙ sym (chunk-in b 8 4 4 others (omega arith) lb))
    (λ lx lz lox loz. ap phase_of_sign (packed_meet 64 x z other_x other_z (lx ∙ sym lz) (lx ∙ sym lox) (lx ∙ sym loz)))
    (record { whole = refl })))
  where
    low : (words : List ℕ) (c : ℕ) → c + 8 ≤ length words → chunk c 4 words ≡ chunk 0 4 (chunk c 8 words)
    low words c lc = let z : c + 0 ≡ c = omega arith in sym (chunk-in c 8 0 4 words (omega arith) lc ∙ ap (λ k. chunk k 4 words) z)

-- the halves of a block whose words with X bits and those with Z bits are at hand

pub first-half : (x z : List ℕ) → length x ≡ 4 → x ≡ chunk 0 4 (x ++ z)
first-half x z l = sym (take-append_seam x z) ∙ ap (λ n. take n (x ++ z)) l

pub second-half : (x z : List ℕ) → length x ≡ 4 → length z ≡ 4 → z ≡ chunk 4 4 (x ++ z)
second-half x z l m = sym (take_all 4 z (omega arith)) ∙ ap (take 4) (sym (drop-append_seam x z) ∙ ap (λ n. drop n (x ++ z)) l)

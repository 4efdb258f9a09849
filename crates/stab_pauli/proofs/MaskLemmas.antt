-- Masks: what they choose when a bit is set, cleared, or put before the others.
use Rattle.stab_pauli.proofs.Names.{◌≡◌, ◌≢◌, ℕ, zero, suc, ◌+◌, ◌-◌, ◌*◌, ◌/◌, ◌%◌, ◌^◌, ◌<◌, ◌≤◌, Bool, true, false, sym, ◌∙◌, ap, arith, eqb, inl, inr, ◌⊎◌, bit_and, bit_or, bit_xor, bit_at, bit_not, trailing_zeros, w64, bool_byte, pow-succ', pow_mono, pow-add, cases_order, cases_lt, and_le_l, bit_at-zero, bit_at-lt, bit_at-suc, bit_at_lowest, bit_at_or, bit_at_xor, bit_at_above, bit_at_set_same, bit_at_set_other, bit_at_clear_same, bit_at_clear_other, bit_at-trailing_zeros, ◌⊕◌, chooses}
use Rattle.stab_pauli.proofs.BitLemmas.{two_cases, low_xor}

pub chosen : (mask k : ℕ) → bit_at mask k ≡ 1 → chooses mask k ≡ true
chosen mask k e = ap (λ n. eqb n 1) e

pub unchosen : (mask k : ℕ) → bit_at mask k ≡ 0 → chooses mask k ≡ false
unchosen mask k e = ap (λ n. eqb n 1) e

-- no row is both
pub clash : {A : Type 0} (b : Bool) → b ≡ true → b ≡ false → A
clash b e f = cc

-- the bit of a row, by whether the mask chooses it
pub bit-chosen : (mask k : ℕ) → chooses mask k ≡ true → bit_at mask k ≡ 1
bit-chosen mask k one = by_bit (two_cases (bit_at mask k) (bit_at-lt mask k))
  where
    by_bit : (bit_at mask k ≡ 0) ⊎ (bit_at mask k ≡ 1) → bit_at mask k ≡ 1
    by_bit (inl none) = clash (chooses mask k) one (unchosen mask k none)
    by_bit (inr e) = e

pub bit-unchosen : (mask k : ℕ) → chooses mask k ≡ false → bit_at mask k ≡ 0
bit-unchosen mask k none = by_bit (two_cases (bit_at mask k) (bit_at-lt mask k))
  where
    by_bit : (bit_at mask k ≡ 0) ⊎ (bit_at mask k ≡ 1) → bit_at mask k ≡ 0
    by_bit (inl e) = e
    by_bit (inr one) = clash (chooses mask k) (chosen mask k one) none

pub none-chosen : (k : ℕ) → chooses 0 k ≡ false
none-chosen k = unchosen 0 k (bit_at-zero k)

-- a mask of fewer rows chooses none past them
pub unchosen-above : (mask size k : ℕ) → mask < 2 ^ size → size ≤ k → chooses mask k ≡ false
unchosen-above mask size k lt le = unchosen mask k (bit_at_above mask size k lt le)

-- the first row

pub first-chosen : (mask : ℕ) → mask ≢ 0 → mask < 2 ^ 64 → chooses mask (trailing_zeros w64 mask) ≡ true
first-chosen mask some fits =
    let above : 0 < mask = omega arith in
    let found = bit_at-trailing_zeros w64 mask above fits in
    chosen mask (trailing_zeros w64 mask) found.1

-- without a row

pub without-gone : (mask k : ℕ) → k < 64 → chooses (bit_and mask (bit_not w64 (1 * 2 ^ k % 2 ^ 64))) k ≡ false
without-gone mask k lt = ap (λ n. eqb n 1) (bit_at_clear_same w64 mask k lt)

pub without-others : (mask k j : ℕ) → k < 64 → j ≢ k → j < 64 → chooses (bit_and mask (bit_not w64 (1 * 2 ^ k % 2 ^ 64))) j ≡ chooses mask j
without-others mask k j lt ne lj = ap (λ n. eqb n 1) (bit_at_clear_other w64 mask k lt j lj ne)

fewer : (rest mask k : ℕ) → rest ≤ mask → chooses mask k ≡ true → chooses rest k ≡ false → rest < mask
fewer rest mask k le one none = by_order (cases_order rest mask)
  where
    by_order : (rest ≡ mask) ⊎ ((rest < mask) ⊎ (mask < rest)) → rest < mask
    by_order (inl same) = clash (chooses rest k) (ap (λ n. chooses n k) same ∙ one) none
    by_order (inr (inl lt)) = lt
    by_order (inr (inr gt)) = absurd (omega arith)

pub without-fewer : (mask k : ℕ) → k < 64 → chooses mask k ≡ true → bit_and mask (bit_not w64 (1 * 2 ^ k % 2 ^ 64)) < mask
without-fewer mask k lt one =
    fewer (bit_and mask (bit_not w64 (1 * 2 ^ k % 2 ^ 64))) mask k (and_le_l mask (bit_not w64 (1 * 2 ^ k % 2 ^ 64))) one (without-gone mask k lt)

-- with a row

or-none : (mask j s : ℕ) → s ≡ 0 → chooses (bit_or mask s) j ≡ chooses mask j
or-none mask j s e =
    let zero_there : bit_at s j ≡ 0 = ap (λ n. bit_at n j) e ∙ bit_at-zero j in
    let both = bit_at_or mask s j in
    let same : bit_at (bit_or mask s) j ≡ bit_at mask j = omega arith in
    ap (λ n. eqb n 1) same

nothing : (k r : ℕ) → r ≡ 0 → r * 2 ^ k % 2 ^ 64 ≡ 0
nothing k r e = ap (λ n. n * 2 ^ k % 2 ^ 64) e ∙ (let z : 0 * 2 ^ k ≡ 0 = grind arith in ap (λ n. n % 2 ^ 64) z)

pub with-here : (mask k r : ℕ) (b : Bool) → k < 64 → chooses mask k ≡ false → r ≡ bool_byte b → chooses (bit_or mask (r * 2 ^ k % 2 ^ 64)) k ≡ b
with-here mask k r true lt blank e = ap (λ n. chooses (bit_or mask (n * 2 ^ k % 2 ^ 64)) k) e ∙ ap (λ n. eqb n 1) (bit_at_set_same w64 mask k lt)
with-here mask k r false lt blank e = or-none mask k (r * 2 ^ k % 2 ^ 64) (nothing k r e) ∙ blank

pub with-others : (mask k r j : ℕ) (b : Bool) → k < 64 → j ≢ k → r ≡ bool_byte b → chooses (bit_or mask (r * 2 ^ k % 2 ^ 64)) j ≡ chooses mask j
with-others mask k r j true lt ne e = ap (λ n. chooses (bit_or mask (n * 2 ^ k % 2 ^ 64)) j) e ∙ ap (λ n. eqb n 1) (bit_at_set_other w64 mask k lt j ne)
with-others mask k r j false lt ne e = or-none mask j (r * 2 ^ k % 2 ^ 64) (nothing k r e)

-- after a row

pub following-first : (mask r : ℕ) (b : Bool) → r ≡ bool_byte b → chooses (2 * mask + r) 0 ≡ b
following-first mask r true e =
    let one : r ≡ 1 = e in
    let low : (2 * mask + r) % 2 ≡ 1 = omega arith in
    ap (λ n. eqb n 1) (bit_at_lowest (2 * mask + r) ∙ low)
following-first mask r false e =
    let none : r ≡ 0 = e in
    let low : (2 * mask + r) % 2 ≡ 0 = omega arith in
    ap (λ n. eqb n 1) (bit_at_lowest (2 * mask + r) ∙ low)

pub following-others : (mask r k : ℕ) → r < 2 → chooses (2 * mask + r) (k + 1) ≡ chooses mask k
following-others mask r k lt =
    ap (chooses (2 * mask + r)) (let e : k + 1 ≡ suc k = omega arith in e)
    ∙ ap (λ n. eqb n 1) (bit_at-suc (2 * mask + r) k)
    ∙ ap (λ n. chooses n k) (let e : (2 * mask + r) / 2 ≡ mask = omega arith in e)

pub byte-small : (r : ℕ) (b : Bool) → r ≡ bool_byte b → r < 2
byte-small r true e = let one : r ≡ 1 = e in omega arith
byte-small r false e = let none : r ≡ 0 = e in omega arith

-- a mask of rows from a on, given by f, that has grown by the row before its first
pub grown : (f : ℕ → Bool) (a end mask more : ℕ) (b : Bool) → 0 < a → b ≡ f (a - 1) → chooses more 0 ≡ b
    → ((k : ℕ) → chooses more (k + 1) ≡ chooses mask k) → ((k : ℕ) → a + k < end → chooses mask k ≡ f (a + k))
    → (k : ℕ) → a - 1 + k < end → chooses more k ≡ f (a - 1 + k)
grown f a end mask more b some here front others value zero lt = front ∙ here ∙ ap f (let e : a - 1 ≡ a - 1 + 0 = omega arith in e)
grown f a end mask more b some here front others value (suc k) lt =
    ap (chooses more) (let e : suc k ≡ k + 1 = omega arith in e) ∙ others k ∙ value k (omega arith) ∙ ap f (let e : a + k ≡ a - 1 + suc k = omega arith in e)

-- and by the eight rows before its first
pub grown-eight : (f : ℕ → Bool) (a end mask more eight : ℕ) → 8 ≤ a → ((k : ℕ) → k < 8 → chooses eight k ≡ f (a - 8 + k))
    → ((k : ℕ) → k < 8 → chooses more k ≡ chooses eight k) → ((k : ℕ) → chooses more (k + 8) ≡ chooses mask k)
    → ((k : ℕ) → a + k < end → chooses mask k ≡ f (a + k)) → (k : ℕ) → a - 8 + k < end → chooses more k ≡ f (a - 8 + k)
grown-eight f a end mask more eight some here front others value k lt = by_position (cases_lt k 8)
  where
    by_position : (k < 8) ⊎ (8 ≤ k) → chooses more k ≡ f (a - 8 + k)
    by_position (inl early) = front k early ∙ here k early
    by_position (inr late) =
        ap (chooses more) (let e : k ≡ k - 8 + 8 = omega arith in e) ∙ others (k - 8) ∙ value (k - 8) (omega arith)
        ∙ ap f (let e : a + (k - 8) ≡ a - 8 + k = omega arith in e)

-- after several rows

double : (s mask : ℕ) → 2 ^ suc s * mask ≡ 2 * (2 ^ s * mask)
double s mask = ap (λ n. n * mask) (pow-succ' 2 s) ∙ (let e : 2 * 2 ^ s * mask ≡ 2 * (2 ^ s * mask) = grind arith in e)

bits-front : (s k mask rows : ℕ) → k < s → bit_at (2 ^ s * mask + rows) k ≡ bit_at rows k
bits-front zero k mask rows lt = elim lt [ ]
bits-front (suc s) zero mask rows lt =
    let e = double s mask in
    let low : (2 ^ suc s * mask + rows) % 2 ≡ rows % 2 = omega (arith, e) in
    bit_at_lowest (2 ^ suc s * mask + rows) ∙ low ∙ sym (bit_at_lowest rows)
bits-front (suc s) (suc k) mask rows lt =
    let e = double s mask in
    let half : (2 ^ suc s * mask + rows) / 2 ≡ 2 ^ s * mask + rows / 2 = omega (arith, e) in
    bit_at-suc (2 ^ suc s * mask + rows) k ∙ ap (λ n. bit_at n k) half ∙ bits-front s k mask (rows / 2) (omega arith) ∙ sym (bit_at-suc rows k)

bits-following : (s k mask rows : ℕ) → rows < 2 ^ s → bit_at (2 ^ s * mask + rows) (k + s) ≡ bit_at mask k
bits-following zero k mask rows lt =
    let none : rows ≡ 0 = omega (arith, lt) in
    let e : 2 ^ 0 * mask + rows ≡ mask = omega (arith, none) in
    let at : k + 0 ≡ k = omega arith in
    λ i. bit_at (e i) (at i)
bits-following (suc s) k mask rows lt =
    let e = double s mask in
    let half : (2 ^ suc s * mask + rows) / 2 ≡ 2 ^ s * mask + rows / 2 = omega (arith, e) in
    let at : k + suc s ≡ suc (k + s) = omega arith in
    let two = pow-succ' 2 s in
    ap (bit_at (2 ^ suc s * mask + rows)) at ∙ bit_at-suc (2 ^ suc s * mask + rows) (k + s) ∙ ap (λ n. bit_at n (k + s)) half
    ∙ bits-following s k mask (rows / 2) (omega (arith, two, lt))

pub after_several-first : (s k mask rows : ℕ) → k < s → chooses (2 ^ s * mask + rows) k ≡ chooses rows k
after_several-first s k mask rows lt = ap (λ n. eqb n 1) (bits-front s k mask rows lt)

pub after_several-others : (s k mask rows : ℕ) → rows < 2 ^ s → chooses (2 ^ s * mask + rows) (k + s) ≡ chooses mask k
after_several-others s k mask rows lt = ap (λ n. eqb n 1) (bits-following s k mask rows lt)

pub eight-short : (mask size eight : ℕ) → mask < 2 ^ size → eight < 2 ^ 8 → 256 * mask + eight < 2 ^ (size + 8)
eight-short mask size eight short few = let e = pow-add 2 size 8 in omega (arith, e, short, few)

pub eight-fits : (mask size eight : ℕ) → mask < 2 ^ size → size + 8 ≤ 64 → eight < 2 ^ 8 → 256 * mask + eight < 2 ^ 64
eight-fits mask size eight short room few =
    let e = eight-short mask size eight short few in
    let le = pow_mono room in
    omega (arith, e, le)

-- the rows of either mask, and those of one alone

pub chosen-first : (a b k : ℕ) → chooses a k ≡ true → chooses (bit_or a b) k ≡ true
chosen-first a b k one =
    let mine = bit-chosen a k one in
    let both = bit_at_or a b k in
    let other = bit_at-lt b k in
    chosen (bit_or a b) k (omega (arith, mine, both, other))

pub chosen-second : (a b k : ℕ) → chooses b k ≡ true → chooses (bit_or a b) k ≡ true
chosen-second a b k one =
    let mine = bit-chosen b k one in
    let both = bit_at_or a b k in
    let other = bit_at-lt a k in
    chosen (bit_or a b) k (omega (arith, mine, both, other))

pub chooses-xor : (a b k : ℕ) → chooses (bit_xor a b) k ≡ chooses a k ⊕ chooses b k
chooses-xor a b k = low_xor (bit_at a k) (bit_at b k) (bit_at (bit_xor a b) k) (bit_at_xor a b k) (bit_at-lt a k) (bit_at-lt b k)

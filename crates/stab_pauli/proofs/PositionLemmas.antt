-- The letter at a position: its block, its words and its bits.
use Rattle.stab_pauli.proofs.Names.{◌≡◌, ℕ, zero, suc, ◌+◌, ◌*◌, ◌/◌, ◌%◌, ◌<◌, refl, sym, ◌∙◌, ap, List, [], ◌∷◌, ◌++◌, Bool, true, false, length, get_or, set, take, drop, arith, eqb, inl, inr, ◌⊎◌, bit_at, bit_at_lowest, bit_at-suc, get_or-append, cases_order, get_or-append-add, get_or-drop, get_or-take, length-set, get_or-set_same, get_or-set_other, ext_get_or, Letter, I, has_x, letter_of_bits, word_letters, packed_letters, row_letters}
use Rattle.std.specs.Prelude.{◌≢◌}
use Rattle.stab_pauli.proofs.PackedLemmas.{length-word_letters}
use Rattle.stab_pauli.proofs.RowLemmas.{length-block, length-front, length-second, length-rest, length-row}

pub get_or-word_letters : (k x z i : ℕ) → i < k → get_or (word_letters k x z) i I ≡ letter_of_bits (eqb (bit_at x i) 1) (eqb (bit_at z i) 1)
unfolding word_letters
get_or-word_letters zero x z i lt = absurd (omega arith)
get_or-word_letters (suc k) x z zero lt = λ j. letter_of_bits (eqb (sym (bit_at_lowest x) j) 1) (eqb (sym (bit_at_lowest z) j) 1)
get_or-word_letters (suc k) x z (suc i) lt =
    get_or-word_letters k (x / 2) (z / 2) i (omega arith)
    ∙ (λ j. letter_of_bits (eqb (sym (bit_at-suc x i) j) 1) (eqb (sym (bit_at-suc z i) j) 1))

get_or-packed : (k : ℕ) (xs zs : List ℕ) (j i : ℕ) → length xs ≡ length zs → j < length xs → i < k
    → get_or (packed_letters k xs zs) (j * k + i) I ≡ get_or (word_letters k (get_or xs j 0) (get_or zs j 0)) i I
get_or-packed k [] zs j i e lj li = absurd (omega arith)
get_or-packed k (x ∷ xs) [] j i e lj li = absurd (omega arith)
get_or-packed k (x ∷ xs) (z ∷ zs) zero i e lj li =
    let c : 0 * k + i ≡ i = grind arith in
    ap (λ n. get_or (word_letters k x z ++ packed_letters k xs zs) n I) c
    ∙ get_or-append (word_letters k x z) (packed_letters k xs zs) I i (rw (length-word_letters k x z) li)
get_or-packed k (x ∷ xs) (z ∷ zs) (suc j) i e lj li =
    ap (λ n. get_or (word_letters k x z ++ packed_letters k xs zs) n I) (next ∙ ap (λ n. n + (j * k + i)) (sym (length-word_letters k x z)))
    ∙ get_or-append-add (word_letters k x z) (packed_letters k xs zs) (j * k + i) I
    ∙ get_or-packed k xs zs j i (omega arith) (omega arith) li
  where
    next : suc j * k + i ≡ k + (j * k + i)
    next = grind arith

pub get_or-row : (m : ℕ) (row : List ℕ) (b j i : ℕ) → length row ≡ 8 * m → b < m → j < 4 → i < 64
    → get_or (row_letters m row) (256 * b + (j * 64 + i)) I ≡ get_or (word_letters 64 (get_or row (8 * b + j) 0) (get_or row (8 * b + (4 + j)) 0)) i I
get_or-row zero row b j i e lb lj li = absurd (omega arith)
get_or-row (suc m) row zero j i e lb lj li =
    let c : 256 * 0 + (j * 64 + i) ≡ j * 64 + i = omega arith in
    let x : get_or (take 4 row) j 0 ≡ get_or row (8 * 0 + j) 0 = get_or-take 4 row j 0 lj ∙ ap (λ n. get_or row n 0) (let d : j ≡ 8 * 0 + j = omega arith in d) in
    let z : get_or (take 4 (drop 4 row)) j 0 ≡ get_or row (8 * 0 + (4 + j)) 0 =
    get_or-take 4 (drop 4 row) j 0 lj ∙ get_or-drop 4 row j 0 ∙ ap (λ n. get_or row n 0) (let d : 4 + j ≡ 8 * 0 + (4 + j) = omega arith in d) in
    ap (λ n. get_or (front ++ row_letters m (drop 8 row)) n I) c
    ∙ get_or-append front (row_letters m (drop 8 row)) I (j * 64 + i) (rw lf (omega arith))
    ∙ get_or-packed 64 (take 4 row) (take 4 (drop 4 row)) j i (l0 ∙ sym l1) (rw l0 lj) li
    ∙ (λ t. get_or (word_letters 64 (x t) (z t)) i I)
  where
    front : List Letter
    front = packed_letters 64 (take 4 row) (take 4 (drop 4 row))

    l0 : length (take 4 row) ≡ 4
    l0 = length-front m row e

    l1 : length (take 4 (drop 4 row)) ≡ 4
    l1 = length-second m row e

    lf : length front ≡ 256
    lf = length-block (take 4 row) (take 4 (drop 4 row)) l0 l1
get_or-row (suc m) row (suc b) j i e lb lj li =
    let c : 256 * suc b + (j * 64 + i) ≡ 256 + (256 * b + (j * 64 + i)) = omega arith in
    let x : 8 + (8 * b + j) ≡ 8 * suc b + j = omega arith in
    let z : 8 + (8 * b + (4 + j)) ≡ 8 * suc b + (4 + j) = omega arith in
    ap (λ n. get_or (front ++ row_letters m (drop 8 row)) n I) (c ∙ ap (λ n. n + (256 * b + (j * 64 + i))) (sym lf))
    ∙ get_or-append-add front (row_letters m (drop 8 row)) (256 * b + (j * 64 + i)) I
    ∙ get_or-row m (drop 8 row) b j i (length-rest m row e) (omega arith) lj li
    ∙ (λ t. get_or (word_letters 64
    ((get_or-drop 8 row (8 * b + j) 0 ∙ ap (λ n. get_or row n 0) x) t)
    ((get_or-drop 8 row (8 * b + (4 + j)) 0 ∙ ap (λ n. get_or row n 0) z) t)) i I)
  where
    front : List Letter
    front = packed_letters 64 (take 4 row) (take 4 (drop 4 row))

    lf : length front ≡ 256
    lf = length-block (take 4 row) (take 4 (drop 4 row)) (length-front m row e) (length-second m row e)

-- by the position alone
pub get_or-position : (m : ℕ) (row : List ℕ) (q : ℕ) → length row ≡ 8 * m → q < 256 * m
    → get_or (row_letters m row) q I ≡ letter_of_bits (eqb (bit_at (get_or row (8 * (q / 256) + q % 256 / 64) 0) (q % 64)) 1) (eqb (bit_at (get_or row (8 * (q / 256) + q % 256 / 64 + 4) 0) (q % 64)) 1)
get_or-position m row q e lt =
    ap (λ n. get_or (row_letters m row) n I) split
    ∙ get_or-row m row (q / 256) (q % 256 / 64) (q % 64) e block lane bit
    ∙ get_or-word_letters 64 (get_or row (8 * (q / 256) + q % 256 / 64) 0) (get_or row (8 * (q / 256) + (4 + q % 256 / 64)) 0) (q % 64) bit
    ∙ ap (λ n. letter_of_bits (eqb (bit_at (get_or row (8 * (q / 256) + q % 256 / 64) 0) (q % 64)) 1) (eqb (bit_at (get_or row n 0) (q % 64)) 1)) position
  where
    split : q ≡ 256 * (q / 256) + (q % 256 / 64 * 64 + q % 64)
    split = omega arith

    block : q / 256 < m
    block = omega arith

    lane : q % 256 / 64 < 4
    lane = omega arith

    bit : q % 64 < 64
    bit = omega arith

    position : 8 * (q / 256) + (4 + q % 256 / 64) ≡ 8 * (q / 256) + q % 256 / 64 + 4
    position = omega arith

-- the word with the X bit of a qubit; the one with its Z bit is 4 further
abbrev pub x_position : ℕ → ℕ
x_position q = 8 * (q / 256) + q % 256 / 64

-- the letter of a qubit's bit in two words
abbrev pub bits_letter : ℕ → ℕ → ℕ → Letter
bits_letter x z bit = letter_of_bits (eqb (bit_at x bit) 1) (eqb (bit_at z bit) 1)

pub letter_at_position : (m : ℕ) (row : List ℕ) (q at : ℕ) → length row ≡ 8 * m → q < 256 * m → at ≡ x_position q
    → get_or (row_letters m row) q I ≡ bits_letter (get_or row at 0) (get_or row (at + 4) 0) (q % 64)
letter_at_position m row q at e lt ea = get_or-position m row q e lt ∙ ap (λ n. bits_letter (get_or row n 0) (get_or row (n + 4) 0) (q % 64)) (sym ea)

pub has_x_bits : (x z : Bool) → has_x (letter_of_bits x z) ≡ x
has_x_bits false false = refl
has_x_bits false true = refl
has_x_bits true false = refl
has_x_bits true true = refl

-- a letter is X or Y if its X bit is 1
pub has_x_at_position : (m : ℕ) (row : List ℕ) (q at : ℕ) → length row ≡ 8 * m → q < 256 * m → at ≡ x_position q
    → has_x (get_or (row_letters m row) q I) ≡ eqb (bit_at (get_or row at 0) (q % 64)) 1
has_x_at_position m row q at e lt ea =
    ap has_x (letter_at_position m row q at e lt ea) ∙ has_x_bits (eqb (bit_at (get_or row at 0) (q % 64)) 1) (eqb (bit_at (get_or row (at + 4) 0) (q % 64)) 1)

-- the X words and the Z words do not overlap
x_not_z : (j q : ℕ) → x_position j ≢ x_position q + 4
x_not_z j q = λ e. omega arith

-- two qubits with one word have different bits
other_bit : (j q : ℕ) → j ≢ q → x_position j ≡ x_position q → j % 64 ≢ q % 64
other_bit j q ne e = λ h. ne (omega arith)

x_preserved : (row : List ℕ) (q j x z : ℕ) → x_position q < length row → j ≢ q
    → ((k : ℕ) → k ≢ q % 64 → k < 64 → bit_at x k ≡ bit_at (get_or row (x_position q) 0) k)
    → (x_position j ≡ x_position q) ⊎ (x_position j ≢ x_position q)
    → bit_at (get_or (set (set row (x_position q) x) (x_position q + 4) z) (x_position j) 0) (j % 64) ≡ bit_at (get_or row (x_position j) 0) (j % 64)
x_preserved row q j x z fits ne others (inl e) =
    ap (λ w. bit_at w (j % 64))
    (get_or-set_other (set row (x_position q) x) (x_position q + 4) (x_position j) z 0 (x_not_z j q)
    ∙ ap (λ n. get_or (set row (x_position q) x) n 0) e ∙ get_or-set_same row (x_position q) x 0 fits)
    ∙ others (j % 64) (other_bit j q ne e) (omega arith)
    ∙ ap (λ n. bit_at (get_or row n 0) (j % 64)) (sym e)
x_preserved row q j x z fits ne others (inr d) =
    ap (λ w. bit_at w (j % 64))
    (get_or-set_other (set row (x_position q) x) (x_position q + 4) (x_position j) z 0 (x_not_z j q)
    ∙ get_or-set_other row (x_position q) (x_position j) x 0 d)

z_preserved : (row : List ℕ) (q j x z : ℕ) → x_position q + 4 < length row → j ≢ q
    → ((k : ℕ) → k ≢ q % 64 → k < 64 → bit_at z k ≡ bit_at (get_or row (x_position q + 4) 0) k)
    → (x_position j ≡ x_position q) ⊎ (x_position j ≢ x_position q)
    → bit_at (get_or (set (set row (x_position q) x) (x_position q + 4) z) (x_position j + 4) 0) (j % 64) ≡ bit_at (get_or row (x_position j + 4) 0) (j % 64)
z_preserved row q j x z fits ne others (inl e) =
    ap (λ w. bit_at w (j % 64))
    (ap (λ n. get_or (set (set row (x_position q) x) (x_position q + 4) z) (n + 4) 0) e
    ∙ get_or-set_same (set row (x_position q) x) (x_position q + 4) z 0 (rw (length-set row (x_position q) x) fits))
    ∙ others (j % 64) (other_bit j q ne e) (omega arith)
    ∙ ap (λ n. bit_at (get_or row (n + 4) 0) (j % 64)) (sym e)
z_preserved row q j x z fits ne others (inr d) =
    ap (λ w. bit_at w (j % 64))
    (get_or-set_other (set row (x_position q) x) (x_position q + 4) (x_position j + 4) z 0 (λ e. d (omega arith))
    ∙ get_or-set_other row (x_position q) (x_position j + 4) x 0 (λ e. x_not_z q j (sym e)))

pub same_or_not : (a b : ℕ) → (a ≡ b) ⊎ (a ≢ b)
same_or_not a b = by_order (cases_order a b)
  where
    by_order : (a ≡ b) ⊎ ((a < b) ⊎ (b < a)) → (a ≡ b) ⊎ (a ≢ b)
    by_order (inl e) = inl e
    by_order (inr (inl lt)) = inr (λ e. omega arith)
    by_order (inr (inr lt)) = inr (λ e. omega arith)

-- a letter that was put at a position, by its two bits
pub row_letters-set : (m : ℕ) (row : List ℕ) (q at x z : ℕ) (letter : Letter) → length row ≡ 8 * m → q < 256 * m → at ≡ x_position q
    → bits_letter x z (q % 64) ≡ letter
    → ((k : ℕ) → k ≢ q % 64 → k < 64 → bit_at x k ≡ bit_at (get_or row at 0) k)
    → ((k : ℕ) → k ≢ q % 64 → k < 64 → bit_at z k ≡ bit_at (get_or row (at + 4) 0) k)
    → row_letters m (set (set row at x) (at + 4) z) ≡ set (row_letters m row) q letter
row_letters-set m row q at x z letter e lt ea el ox oz =
    ap (λ n. row_letters m (set (set row n x) (n + 4) z)) ea
    ∙ ext_get_or I (row_letters m new) (set (row_letters m row) q letter)
    (length-row m new ln ∙ sym (length-row m row e) ∙ sym (length-set (row_letters m row) q letter))
    (λ j h. at_letter j (rw (length-row m new ln) at h) (same_or_not j q))
  where
    new : List ℕ
    new = set (set row (x_position q) x) (x_position q + 4) z

    ln : length new ≡ 8 * m
    ln = length-set (set row (x_position q) x) (x_position q + 4) z ∙ length-set row (x_position q) x ∙ e

    inside : x_position q + 4 < length row
    inside = omega arith

    ox' : (k : ℕ) → k ≢ q % 64 → k < 64 → bit_at x k ≡ bit_at (get_or row (x_position q) 0) k
    ox' k h l = ox k h l ∙ ap (λ n. bit_at (get_or row n 0) k) ea

    oz' : (k : ℕ) → k ≢ q % 64 → k < 64 → bit_at z k ≡ bit_at (get_or row (x_position q + 4) 0) k
    oz' k h l = oz k h l ∙ ap (λ n. bit_at (get_or row (n + 4) 0) k) ea

    at_letter : (j : ℕ) → j < 256 * m → (j ≡ q) ⊎ (j ≢ q) → get_or (row_letters m new) j I ≡ get_or (set (row_letters m row) q letter) j I
    at_letter j h (inl s) =
        ap (λ n. get_or (row_letters m new) n I) s
        ∙ letter_at_position m new q (x_position q) ln lt refl
        ∙ (λ i. bits_letter
        ((get_or-set_other (set row (x_position q) x) (x_position q + 4) (x_position q) z 0 (x_not_z q q) ∙ get_or-set_same row (x_position q) x 0 (omega arith)) i)
        (get_or-set_same (set row (x_position q) x) (x_position q + 4) z 0 (rw (length-set row (x_position q) x) inside) i) (q % 64))
        ∙ el ∙ sym (get_or-set_same (row_letters m row) q letter I (rw (length-row m row e) lt))
        ∙ ap (λ n. get_or (set (row_letters m row) q letter) n I) (sym s)
    at_letter j h (inr d) =
        letter_at_position m new j (x_position j) ln h refl
        ∙ (λ i. letter_of_bits
        (eqb (x_preserved row q j x z (omega arith) d ox' (same_or_not (x_position j) (x_position q)) i) 1)
        (eqb (z_preserved row q j x z inside d oz' (same_or_not (x_position j) (x_position q)) i) 1))
        ∙ sym (letter_at_position m row j (x_position j) e h refl)
        ∙ sym (get_or-set_other (row_letters m row) q j letter I d)

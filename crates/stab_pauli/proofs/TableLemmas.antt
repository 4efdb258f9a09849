-- Rows one after another: what a row that was replaced does to their letters, and products of padded rows.
use Rattle.stab_pauli.proofs.Names.{◌≡◌, ℕ, zero, suc, ◌+◌, ◌-◌, ◌*◌, ◌<◌, ◌≤◌, refl, sym, ◌∙◌, ap, List, [], ◌∷◌, ◌++◌, length, get_or, set, take, drop, arith, subst, inl, inr, length-drop, ◌⊎◌, take-length, drop-length, cases_order, All, zip2, chunk, put_chunk, drop-drop, length-take-le, take-append-drop, length-set, append-nil, All-set, All-get_or, get_or-zip2, length-zip2, length-chunk, length-put_chunk, mul-le-mul_left, Letter, Phase, Zero, phase_add, ◌⊕◌, letter_product, identity, string_product, string_power, strings_meet, IsSign, parity-false, phase_add-zero, Rows, row_at, with_row, row_letters, full_rows, IsPadded, IsSignedRow, IsTable, table, row_sign, signed_row}
use Rattle.std.specs.Prelude.{◌≢◌}
use Rattle.stab_pauli.proofs.StringLemmas.{string_product-blank}
use Rattle.stab_pauli.proofs.PowerLemmas.{strings_meet-append, strings_meet-blank, string_power-append, string_power-blank}

-- words that are replaced

take-put_chunk_below : (s i : ℕ) (ws new : List ℕ) → take s (put_chunk (s + i) ws new) ≡ take s ws
take-put_chunk_below zero i ws new = refl
take-put_chunk_below (suc s) i [] new = refl
take-put_chunk_below (suc s) i (w ∷ ws) new =
    let e : suc s + i ≡ suc (s + i) = omega arith in
    ap (λ k. take (suc s) (put_chunk k (w ∷ ws) new)) e ∙ ap (λ t. w ∷ t) (take-put_chunk_below s i ws new)

drop-put_chunk_below : (s i : ℕ) (ws new : List ℕ) → drop s (put_chunk (s + i) ws new) ≡ put_chunk i (drop s ws) new
drop-put_chunk_below zero i ws new = let e : 0 + i ≡ i = omega arith in ap (λ k. put_chunk k ws new) e
drop-put_chunk_below (suc s) i [] new = refl
drop-put_chunk_below (suc s) i (w ∷ ws) new =
    let e : suc s + i ≡ suc (s + i) = omega arith in
    ap (λ k. drop (suc s) (put_chunk k (w ∷ ws) new)) e ∙ drop-put_chunk_below s i ws new

take-put_chunk_first : (ws new : List ℕ) → length new ≤ length ws → take (length new) (put_chunk 0 ws new) ≡ new
take-put_chunk_first [] [] le = refl
take-put_chunk_first [] (x ∷ new) le = absurd (omega arith)
take-put_chunk_first (w ∷ ws) [] le = refl
take-put_chunk_first (w ∷ ws) (x ∷ new) le = ap (λ t. x ∷ t) (take-put_chunk_first ws new (omega arith))

drop-put_chunk_first : (ws new : List ℕ) → drop (length new) (put_chunk 0 ws new) ≡ drop (length new) ws
drop-put_chunk_first [] new = refl
drop-put_chunk_first (w ∷ ws) [] = refl
drop-put_chunk_first (w ∷ ws) (x ∷ new) = drop-put_chunk_first ws new

-- the letters of the rows where one was replaced
pub full_rows-put : (m count : ℕ) (ws : List ℕ) (a : ℕ) (new : List ℕ) → a < count → 8 * m * count ≤ length ws → length new ≡ 8 * m
    → full_rows m (put_chunk (8 * m * a) ws new) count ≡ set (full_rows m ws count) a (row_letters m new)
full_rows-put m zero ws a new lt le l = absurd (omega arith)
full_rows-put m (suc count) ws zero new lt le l =
    let z : 8 * m * 0 ≡ 0 = omega arith in
    let room : 8 * m ≤ length ws = first_fits in
    (λ i. row_letters m (take (sym l i) (put_chunk (z i) ws new)) ∷ full_rows m (drop (sym l i) (put_chunk (z i) ws new)) count)
    ∙ (λ i. row_letters m (take-put_chunk_first ws new (rw l room) i) ∷ full_rows m (drop-put_chunk_first ws new i) count)
    ∙ (λ i. row_letters m new ∷ full_rows m (drop (l i) ws) count)
  where
    first_fits : 8 * m ≤ length ws
    first_fits = grind arith
full_rows-put m (suc count) ws (suc a) new lt le l =
    (λ i. row_letters m (take (8 * m) (put_chunk (further i) ws new)) ∷ full_rows m (drop (8 * m) (put_chunk (further i) ws new)) count)
    ∙ (λ i. row_letters m (take-put_chunk_below (8 * m) (8 * m * a) ws new i) ∷ full_rows m (drop-put_chunk_below (8 * m) (8 * m * a) ws new i) count)
    ∙ ap (λ t. row_letters m (take (8 * m) ws) ∷ t) (full_rows-put m count (drop (8 * m) ws) a new (omega arith) rest_fits l)
  where
    further : 8 * m * suc a ≡ 8 * m + 8 * m * a
    further = grind arith

    rest_fits : 8 * m * count ≤ length (drop (8 * m) ws)
    rest_fits = let e : 8 * m * suc count ≡ 8 * m + 8 * m * count = grind arith in omega (arith, length-drop (8 * m) ws)

pub length-full_rows : (m : ℕ) (ws : List ℕ) (count : ℕ) → length (full_rows m ws count) ≡ count
length-full_rows m ws zero = refl
length-full_rows m ws (suc count) = ap suc (length-full_rows m (drop (8 * m) ws) count)

pub get_or-full_rows : (m : ℕ) (ws : List ℕ) (count a : ℕ) (d : List Letter) → a < count → get_or (full_rows m ws count) a d ≡ row_letters m (chunk (8 * m * a) (8 * m) ws)
get_or-full_rows m ws zero a d lt = absurd (omega arith)
get_or-full_rows m ws (suc count) zero d lt = let z : 8 * m * 0 ≡ 0 = omega arith in ap (λ k. row_letters m (chunk k (8 * m) ws)) (sym z)
get_or-full_rows m ws (suc count) (suc a) d lt =
    let further : 8 * m + 8 * m * a ≡ 8 * m * suc a = grind arith in
    get_or-full_rows m (drop (8 * m) ws) count a d (omega arith)
    ∙ (λ i. row_letters m (take (8 * m) ((drop-drop (8 * m * a) (8 * m) ws ∙ ap (λ k. drop k ws) further) i)))

-- products of the first n letters

pub take-product : (n : ℕ) (p q : List Letter) → length p ≡ length q → take n (string_product p q) ≡ string_product (take n p) (take n q)
take-product zero p q e = refl
take-product (suc n) [] [] e = refl
take-product (suc n) [] (y ∷ q) e = absurd (omega arith)
take-product (suc n) (x ∷ p) [] e = absurd (omega arith)
take-product (suc n) (x ∷ p) (y ∷ q) e = ap (λ t. letter_product x y ∷ t) (take-product n p q (omega arith))

drop-product : (n : ℕ) (p q : List Letter) → length p ≡ length q → drop n (string_product p q) ≡ string_product (drop n p) (drop n q)
drop-product zero p q e = refl
drop-product (suc n) [] [] e = refl
drop-product (suc n) [] (y ∷ q) e = absurd (omega arith)
drop-product (suc n) (x ∷ p) [] e = absurd (omega arith)
drop-product (suc n) (x ∷ p) (y ∷ q) e = drop-product n p q (omega arith)

-- padding stays padding
pub padded-product : (n m : ℕ) (p q : List Letter) → length p ≡ 256 * m → length q ≡ 256 * m → IsPadded n m p → IsPadded n m q → IsPadded n m (string_product p q)
padded-product n m p q lp lq hp hq =
    drop-product n p q (lp ∙ sym lq) ∙ ap (λ t. string_product t (drop n q)) hp
    ∙ string_product-blank (256 * m - n) (drop n q) (omega (arith, length-drop n q)) ∙ hq

-- and its bits meet none
pub padded-meet : (n m : ℕ) (p q : List Letter) → n ≤ 256 * m → length p ≡ 256 * m → length q ≡ 256 * m → IsPadded n m p → strings_meet p q ≡ strings_meet (take n p) (take n q)
padded-meet n m p q le lp lq hp =
    (λ i. strings_meet (sym (take-append-drop n p) i) (sym (take-append-drop n q) i))
    ∙ strings_meet-append (take n p) (take n q) (drop n p) (drop n q) (length-take-le n p (omega arith) ∙ sym (length-take-le n q (omega arith)))
    ∙ ap (λ t. strings_meet (take n p) (take n q) ⊕ t) (ap (λ t. strings_meet t (drop n q)) hp ∙ strings_meet-blank (256 * m - n) (drop n q))
    ∙ parity-false (strings_meet (take n p) (take n q))

-- and take no power of i
pub padded-power : (n m : ℕ) (p : List Letter) → IsPadded n m p → string_power p ≡ string_power (take n p)
padded-power n m p hp =
    ap string_power (sym (take-append-drop n p))
    ∙ string_power-append (take n p) (drop n p)
    ∙ ap (phase_add (string_power (take n p))) (ap string_power hp ∙ string_power-blank (256 * m - n))
    ∙ phase_add-zero (string_power (take n p))

-- a power and letters that are put together

pub zip2-set : {A B C : Type 0} (f : A → B → C) (xs : List A) (ys : List B) (a : ℕ) (x : A) (y : B) → length xs ≡ length ys → zip2 f (set xs a x) (set ys a y) ≡ set (zip2 f xs ys) a (f x y)
zip2-set f [] [] a x y e = refl
zip2-set f [] (y' ∷ ys) a x y e = absurd (omega arith)
zip2-set f (x' ∷ xs) [] a x y e = absurd (omega arith)
zip2-set f (x' ∷ xs) (y' ∷ ys) zero x y e = refl
zip2-set f (x' ∷ xs) (y' ∷ ys) (suc a) x y e = ap (λ t. f x' y' ∷ t) (zip2-set f xs ys a x y (omega arith))

-- tables

pub row_at-table : (n m : ℕ) (ws : List ℕ) (ps : List Phase) (a : ℕ) → a < length ps → row_at (table n m ws ps) a ≡ signed_row n (get_or ps a Zero) (row_letters m (chunk (8 * m * a) (8 * m) ws))
row_at-table n m ws ps a lt =
    get_or-zip2 (signed_row n) ps (full_rows m ws (length ps)) a Zero [] (identity n) lt (rw (length-full_rows m ws (length ps)) lt)
    ∙ ap (signed_row n (get_or ps a Zero)) (get_or-full_rows m ws (length ps) a [] lt)

zip2-put : {A : Type 0} (f : Phase → List Letter → A) (n m : ℕ) (ws : List ℕ) (ps : List Phase) (a : ℕ) (new : List ℕ) (k : Phase) → IsTable n m ws ps → a < length ps → length new ≡ 8 * m
    → zip2 f (set ps a k) (full_rows m (put_chunk (8 * m * a) ws new) (length (set ps a k))) ≡ set (zip2 f ps (full_rows m ws (length ps))) a (f k (row_letters m new))
zip2-put f n m ws ps a new k is lt l =
    ap (λ c. zip2 f (set ps a k) (full_rows m (put_chunk (8 * m * a) ws new) c)) (length-set ps a k)
    ∙ ap (zip2 f (set ps a k)) (full_rows-put m (length ps) ws a new lt (let z = is.size in omega arith) l)
    ∙ zip2-set f ps (full_rows m ws (length ps)) a k (row_letters m new) (sym (length-full_rows m ws (length ps)))

pub table-put : (n m : ℕ) (ws : List ℕ) (ps : List Phase) (a : ℕ) (new : List ℕ) (k : Phase) → IsTable n m ws ps → a < length ps → length new ≡ 8 * m
    → table n m (put_chunk (8 * m * a) ws new) (set ps a k) ≡ with_row (table n m ws ps) a (signed_row n k (row_letters m new))
table-put n m ws ps a new k is lt l = λ i. record { qubits = n; rows = zip2-put (signed_row n) n m ws ps a new k is lt l i }

pub IsTable-put : (n m : ℕ) (ws : List ℕ) (ps : List Phase) (a : ℕ) (new : List ℕ) (k : Phase) → IsTable n m ws ps → a < length ps → IsSignedRow n m k new
    → IsTable n m (put_chunk (8 * m * a) ws new) (set ps a k)
IsTable-put n m ws ps a new k is lt put = record {
  blocks = is.blocks;
  size = length-put_chunk (8 * m * a) ws new ∙ is.size ∙ ap (λ c. 8 * m * c) (sym (length-set ps a k));
  padded = subst (All (IsPadded n m))
      (sym (ap (full_rows m (put_chunk (8 * m * a) ws new)) (length-set ps a k) ∙ full_rows-put m (length ps) ws a new lt (let z = is.size in omega arith) put.row.size))
      (All-set (IsPadded n m) (full_rows m ws (length ps)) a (row_letters m new) put.row.padded is.padded);
  signs = subst (All IsSign) (sym (zip2-put (row_sign n) n m ws ps a new k is lt put.row.size))
      (All-set IsSign (zip2 (row_sign n) ps (full_rows m ws (length ps))) a (row_sign n k (row_letters m new)) put.sign is.signs);
}

-- a row's part of the words fits in
pub row_fits : (m count a size : ℕ) → a < count → size ≡ 8 * m * count → 8 * m * a + 8 * m ≤ size
row_fits m count a size lt e =
    let le : 8 * m * suc a ≤ 8 * m * count = mul-le-mul_left (8 * m) (let h : suc a ≤ count = omega arith in h) in
    let one : 8 * m * suc a ≡ 8 * m * a + 8 * m = grind arith in
    omega arith

pub padded-row : (n m : ℕ) (ws : List ℕ) (ps : List Phase) (a : ℕ) → IsTable n m ws ps → a < length ps → IsPadded n m (row_letters m (chunk (8 * m * a) (8 * m) ws))
padded-row n m ws ps a is lt =
    subst (IsPadded n m) (get_or-full_rows m ws (length ps) a [] lt)
    (All-get_or (IsPadded n m) (full_rows m ws (length ps)) a [] (rw (length-full_rows m ws (length ps)) lt) is.padded)

pub sign-row : (n m : ℕ) (ws : List ℕ) (ps : List Phase) (a : ℕ) → IsTable n m ws ps → a < length ps → IsSign (row_sign n (get_or ps a Zero) (row_letters m (chunk (8 * m * a) (8 * m) ws)))
sign-row n m ws ps a is lt =
    subst IsSign
    (get_or-zip2 (row_sign n) ps (full_rows m ws (length ps)) a Zero [] Zero lt (rw (length-full_rows m ws (length ps)) lt)
    ∙ ap (row_sign n (get_or ps a Zero)) (get_or-full_rows m ws (length ps) a [] lt))
    (All-get_or IsSign (zip2 (row_sign n) ps (full_rows m ws (length ps))) a Zero (rw (length-zip2 (row_sign n) ps (full_rows m ws (length ps)) (sym (length-full_rows m ws (length ps)))) lt) is.signs)

pub length-row_at : (m : ℕ) (ws : List ℕ) (ss : List Phase) (a : ℕ) → length ws ≡ 8 * m * length ss → a < length ss → length (chunk (8 * m * a) (8 * m) ws) ≡ 8 * m
length-row_at m ws ss a e lt = length-chunk (8 * m * a) (8 * m) ws (row_fits m (length ss) a (length ws) lt e)

-- two rows do not overlap
pub rows_disjoint : (m a b : ℕ) → a ≢ b → (8 * m * a + 8 * m ≤ 8 * m * b) ⊎ (8 * m * b + 8 * m ≤ 8 * m * a)
rows_disjoint m a b h = by_order (cases_order a b)
  where
    by_order : (a ≡ b) ⊎ ((a < b) ⊎ (b < a)) → (8 * m * a + 8 * m ≤ 8 * m * b) ⊎ (8 * m * b + 8 * m ≤ 8 * m * a)
    by_order (inl e) = absurd (h e)
    by_order (inr (inl lt)) = inl (row_fits m b a (8 * m * b) lt refl)
    by_order (inr (inr lt)) = inr (row_fits m a b (8 * m * a) lt refl)

-- what a caller sees of the number of rows
pub length-table : (n m : ℕ) (ws : List ℕ) (ss : List Phase) (v : Rows) → table n m ws ss ≡ v → length v.rows ≡ length ss
length-table n m ws ss v e = ap (λ (r : Rows). length r.rows) (sym e) ∙ length-zip2 (signed_row n) ss (full_rows m ws (length ss)) (sym (length-full_rows m ws (length ss)))

-- words of a vector that were written through a slice
pub written : (ws words new : List ℕ) (k len : ℕ) → words ≡ put_chunk k ws new → len ≡ length ws → take len (words ++ drop (length words) ws) ≡ put_chunk k ws new
written ws words new k len e l =
    let same : length words ≡ length ws = ap length e ∙ length-put_chunk k ws new in
    ap (λ n. take len (words ++ drop n ws)) same
    ∙ ap (λ xs. take len (words ++ xs)) (drop-length ws)
    ∙ ap (take len) (append-nil words)
    ∙ ap (λ n. take n words) (l ∙ sym same)
    ∙ take-length words ∙ e

-- an element does not depend on the default
pub get_or-any : {A : Type 0} (xs : List A) (k : ℕ) (d e : A) → k < length xs → get_or xs k d ≡ get_or xs k e
get_or-any [] k d e lt = absurd (omega arith)
get_or-any (x ∷ xs) zero d e lt = refl
get_or-any (x ∷ xs) (suc k) d e lt = get_or-any xs k d e (omega arith)

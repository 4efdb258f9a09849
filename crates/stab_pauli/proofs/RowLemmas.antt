-- Rows of blocks: their products, and what a loop over the blocks knows.
use Rattle.stab_pauli.proofs.Names.{◌≡◌, ℕ, zero, suc, ◌+◌, ◌-◌, ◌*◌, ◌<◌, ◌≤◌, refl, sym, ◌∙◌, ap, List, [], ◌∷◌, ◌++◌, length, take, drop, arith, subst, append_assoc, length-drop, length-append, bit_xor, zip2, chunk, put_chunk, take-append-drop, drop_at, take_at, drop-drop, length-take-le, take-append-le, drop-append-le, length-chunk, put_chunk_is, Letter, Phase, Zero, phase_add, phase_of_sign, string_product, strings_anticommute, string_power, strings_meet, phase_add-zero, phase_add-assoc, phase_add-mid, phase_of_sign-parity, packed_letters, xor_words, row_letters, IsRewritten}
use Rattle.stab_pauli.proofs.PowerLemmas.{strings_anticommute-meet, strings_meet-append, string_power-append}
use Rattle.stab_pauli.proofs.PackedLemmas.{packed_product, length-packed, string_product-append}
use Rattle.stab_pauli.proofs.XorLemmas.{IsXorBefore, IsXorBefore-block, IsXorBefore-ahead, IsXorBefore-ahead_of}

take-zip2 : {A B C : Type 0} (f : A → B → C) (n : ℕ) (xs : List A) (ys : List B) → take n (zip2 f xs ys) ≡ zip2 f (take n xs) (take n ys)
take-zip2 f zero xs ys = refl
take-zip2 f (suc n) [] ys = refl
take-zip2 f (suc n) (x ∷ xs) [] = refl
take-zip2 f (suc n) (x ∷ xs) (y ∷ ys) = ap (λ t. f x y ∷ t) (take-zip2 f n xs ys)

zip2-none : {A B C : Type 0} (f : A → B → C) (xs : List A) → zip2 f xs [] ≡ []
zip2-none f [] = refl
zip2-none f (x ∷ xs) = refl

drop-zip2 : {A B C : Type 0} (f : A → B → C) (n : ℕ) (xs : List A) (ys : List B) → drop n (zip2 f xs ys) ≡ zip2 f (drop n xs) (drop n ys)
drop-zip2 f zero xs ys = refl
drop-zip2 f (suc n) [] ys = refl
drop-zip2 f (suc n) (x ∷ xs) [] = sym (zip2-none f (drop n xs))
drop-zip2 f (suc n) (x ∷ xs) (y ∷ ys) = drop-zip2 f n xs ys

-- the words of a row of one block or more
pub length-front : (m : ℕ) (row : List ℕ) → length row ≡ 8 * suc m → length (take 4 row) ≡ 4
length-front m row e = length-take-le 4 row (omega arith)

pub length-second : (m : ℕ) (row : List ℕ) → length row ≡ 8 * suc m → length (take 4 (drop 4 row)) ≡ 4
length-second m row e = length-take-le 4 (drop 4 row) (omega (arith, length-drop 4 row))

pub length-rest : (m : ℕ) (row : List ℕ) → length row ≡ 8 * suc m → length (drop 8 row) ≡ 8 * m
length-rest m row e = omega (arith, length-drop 8 row)

pub length-block : (a b : List ℕ) → length a ≡ 4 → length b ≡ 4 → length (packed_letters 64 a b) ≡ 256
length-block a b la lb = length-packed 64 a b (la ∙ sym lb) ∙ ap (λ n. n * 64) la

pub length-row : (m : ℕ) (row : List ℕ) → length row ≡ 8 * m → length (row_letters m row) ≡ 256 * m
length-row zero row e = refl
length-row (suc m) row e =
    let a = length-append (packed_letters 64 (take 4 row) (take 4 (drop 4 row))) (row_letters m (drop 8 row)) in
    let b = length-block (take 4 row) (take 4 (drop 4 row)) (length-front m row e) (length-second m row e) in
    let c = length-row m (drop 8 row) (length-rest m row e) in
    omega arith

pub row_product : (m : ℕ) (p q : List ℕ) → length p ≡ 8 * m → length q ≡ 8 * m → row_letters m (xor_words p q) ≡ string_product (row_letters m p) (row_letters m q)
row_product zero p q lp lq = refl
row_product (suc m) p q lp lq =
    (λ i. packed_letters 64 (take-zip2 bit_xor 4 p q i) ((ap (take 4) (drop-zip2 bit_xor 4 p q) ∙ take-zip2 bit_xor 4 (drop 4 p) (drop 4 q)) i) ++ row_letters m (drop-zip2 bit_xor 8 p q i))
    ∙ (λ i. packed_product 64 (take 4 p) (take 4 (drop 4 p)) (take 4 q) (take 4 (drop 4 q)) (p0 ∙ sym p1) (p0 ∙ sym q0) (p0 ∙ sym q1) i
    ++ row_product m (drop 8 p) (drop 8 q) (length-rest m p lp) (length-rest m q lq) i)
    ∙ sym (string_product-append (packed_letters 64 (take 4 p) (take 4 (drop 4 p))) (packed_letters 64 (take 4 q) (take 4 (drop 4 q))) (row_letters m (drop 8 p)) (row_letters m (drop 8 q))
    (length-block (take 4 p) (take 4 (drop 4 p)) p0 p1 ∙ sym (length-block (take 4 q) (take 4 (drop 4 q)) q0 q1)))
  where
    p0 : length (take 4 p) ≡ 4
    p0 = length-front m p lp

    p1 : length (take 4 (drop 4 p)) ≡ 4
    p1 = length-second m p lp

    q0 : length (take 4 q) ≡ 4
    q0 = length-front m q lq

    q1 : length (take 4 (drop 4 q)) ≡ 4
    q1 = length-second m q lq

-- the letters from block k on begin with those of the block
row_letters-drop : (m k : ℕ) (p : List ℕ) → k < m → row_letters (m - k) (drop (8 * k) p) ≡ packed_letters 64 (chunk (8 * k) 4 p) (chunk (8 * k + 4) 4 p) ++ row_letters (m - (k + 1)) (drop (8 * (k + 1)) p)
row_letters-drop m k p lt =
    let e : m - k ≡ suc (m - (k + 1)) = omega arith in
    let next : 8 * k + 8 ≡ 8 * (k + 1) = omega arith in
    ap (λ n. row_letters n (drop (8 * k) p)) e
    ∙ (λ i. packed_letters 64 (chunk (8 * k) 4 p) (take 4 (drop-drop 4 (8 * k) p i)) ++ row_letters (m - (k + 1)) ((drop-drop 8 (8 * k) p ∙ ap (λ n. drop n p) next) i))

-- a power of i of two strings that adds up if strings are appended
pub record AddsUp (F : List Letter → List Letter → Phase) : Type 0 where
  pub none : F [] [] ≡ Zero
  pub append : (p q p' q' : List Letter) → length p ≡ length q → F (p ++ p') (q ++ q') ≡ phase_add (F p q) (F p' q')

-- that of the signs of bits that meet
abbrev pub meet_phase : List Letter → List Letter → Phase
meet_phase p q = phase_of_sign (strings_meet p q)

pub AddsUp-meet : AddsUp meet_phase
AddsUp-meet = record {
  none = refl;
  append = λ p q p' q' e. ap phase_of_sign (strings_meet-append p q p' q' e) ∙ phase_of_sign-parity (strings_meet p q) (strings_meet p' q');
}

-- that of the signs of strings that anticommute
abbrev pub order_phase : List Letter → List Letter → Phase
order_phase p q = phase_add (meet_phase p q) (meet_phase q p)

pub AddsUp-order : AddsUp order_phase
AddsUp-order = record {
  none = refl;
  append = λ p q p' q' e.
      (λ i. phase_add (AddsUp-meet.append p q p' q' e i) (AddsUp-meet.append q p q' p' (sym e) i))
      ∙ phase_add-mid (meet_phase p q) (meet_phase p' q') (meet_phase q p) (meet_phase q' p');
}

pub order_phase-is : (p q : List Letter) → order_phase p q ≡ phase_of_sign (strings_anticommute p q)
order_phase-is p q = sym (ap phase_of_sign (strings_anticommute-meet p q) ∙ phase_of_sign-parity (strings_meet p q) (strings_meet q p))

-- that of the first string alone, before its bits
abbrev pub power_phase : List Letter → List Letter → Phase
power_phase p q = string_power p

pub AddsUp-power : AddsUp power_phase
AddsUp-power = record { none = refl; append = λ p q p' q' e. string_power-append p p' }

-- the power counted in the blocks before k and that of the blocks from k on make the whole
pub record IsPhaseBefore (F : List Letter → List Letter → Phase) (m : ℕ) (p q : List ℕ) (k : ℕ) (counted : Phase) : Type 0 where
  pub whole : phase_add counted (F (row_letters (m - k) (drop (8 * k) p)) (row_letters (m - k) (drop (8 * k) q))) ≡ F (row_letters m p) (row_letters m q)

pub IsPhaseBefore-more : {F : List Letter → List Letter → Phase} → AddsUp F → (m : ℕ) (p q : List ℕ) (k : ℕ) (counted counted' : Phase) (a b c d : List ℕ) → length p ≡ 8 * m → length q ≡ 8 * m → k < m
    → a ≡ chunk (8 * k) 4 p → b ≡ chunk (8 * k + 4) 4 p → c ≡ chunk (8 * k) 4 q → d ≡ chunk (8 * k + 4) 4 q
    → (length a ≡ 4 → length b ≡ 4 → length c ≡ 4 → length d ≡ 4 → counted' ≡ phase_add counted (F (packed_letters 64 a b) (packed_letters 64 c d)))
    → IsPhaseBefore F m p q k counted → IsPhaseBefore F m p q (k + 1) counted'
IsPhaseBefore-more {F} adds m p q k counted counted' a b c d lp lq lt ea eb ec ed e is = record {
  whole =
      ap (λ t. phase_add t rest) (e la lb lc ld)
      ∙ phase_add-assoc counted (F (packed_letters 64 a b) (packed_letters 64 c d)) rest
      ∙ ap (phase_add counted)
      (sym (adds.append (packed_letters 64 a b) (packed_letters 64 c d) (row_letters (m - (k + 1)) (drop (8 * (k + 1)) p)) (row_letters (m - (k + 1)) (drop (8 * (k + 1)) q))
      (length-block a b la lb ∙ sym (length-block c d lc ld)))
      ∙ (λ i. F (whole_row p a b ea eb i) (whole_row q c d ec ed i)))
      ∙ is.whole;
}
  where
    rest : Phase
    rest = F (row_letters (m - (k + 1)) (drop (8 * (k + 1)) p)) (row_letters (m - (k + 1)) (drop (8 * (k + 1)) q))

    la : length a ≡ 4
    la = ap length ea ∙ length-chunk (8 * k) 4 p (omega arith)

    lb : length b ≡ 4
    lb = ap length eb ∙ length-chunk (8 * k + 4) 4 p (omega arith)

    lc : length c ≡ 4
    lc = ap length ec ∙ length-chunk (8 * k) 4 q (omega arith)

    ld : length d ≡ 4
    ld = ap length ed ∙ length-chunk (8 * k + 4) 4 q (omega arith)

    whole_row : (r u v : List ℕ) → u ≡ chunk (8 * k) 4 r → v ≡ chunk (8 * k + 4) 4 r
        → packed_letters 64 u v ++ row_letters (m - (k + 1)) (drop (8 * (k + 1)) r) ≡ row_letters (m - k) (drop (8 * k) r)
    whole_row r u v eu ev = (λ i. packed_letters 64 (eu i) (ev i) ++ row_letters (m - (k + 1)) (drop (8 * (k + 1)) r)) ∙ sym (row_letters-drop m k r lt)

pub IsPhaseBefore-all : {F : List Letter → List Letter → Phase} → AddsUp F → (m : ℕ) (p q : List ℕ) (k : ℕ) (counted : Phase) → m ≤ k → IsPhaseBefore F m p q k counted → counted ≡ F (row_letters m p) (row_letters m q)
IsPhaseBefore-all {F} adds m p q k counted le is =
    let z : m - k ≡ 0 = omega arith in
    sym (phase_add-zero counted)
    ∙ ap (phase_add counted) (sym adds.none ∙ (λ i. F (row_letters (sym z i) (drop (8 * k) p)) (row_letters (sym z i) (drop (8 * k) q))))
    ∙ is.whole

-- a block of 8 words multiplied in two halves
pub IsXorBefore-two : (p q : List ℕ) (k : ℕ) (now : List ℕ) → length p ≡ length q → 8 * k + 8 ≤ length q → IsXorBefore p q (8 * k) now
    → IsXorBefore p q (8 * k + 4 + 4) (put_chunk (8 * k + 4) (put_chunk (8 * k) now (zip2 bit_xor (chunk (8 * k) 4 now) (chunk (8 * k) 4 q))) (zip2 bit_xor (chunk (8 * k + 4) 4 now) (chunk (8 * k + 4) 4 q)))
IsXorBefore-two p q k now same le is =
    subst (λ l. IsXorBefore p q (8 * k + 4 + 4) (put_chunk (8 * k + 4) half (zip2 bit_xor l (chunk (8 * k + 4) 4 q)))) (sym unread)
    (IsXorBefore-block p q (8 * k + 4) 4 half same (omega arith) first)
  where
    half : List ℕ
    half = put_chunk (8 * k) now (zip2 bit_xor (chunk (8 * k) 4 now) (chunk (8 * k) 4 q))

    first : IsXorBefore p q (8 * k + 4) half
    first = IsXorBefore-block p q (8 * k) 4 now same (omega arith) is

    later : IsXorBefore p q (8 * k) now → chunk (8 * k + 4) 4 now ≡ chunk (8 * k + 4) 4 p
    later b = IsXorBefore-ahead_of p q (8 * k) (8 * k + 4) 4 now (omega arith) (omega arith) b

    unread : chunk (8 * k + 4) 4 now ≡ chunk (8 * k + 4) 4 half
    unread = later is ∙ sym (IsXorBefore-ahead p q (8 * k + 4) 4 half (omega arith) first)

-- a part of a slice that was written, with what is before and after it

pub put_front : (a j : ℕ) (words front back new : List ℕ) → front ++ back ≡ words → length new ≡ j → a + j ≤ length front
    → (take a front ++ (new ++ drop j (drop a front))) ++ back ≡ put_chunk a words new
put_front a j words front back new e l le =
    append_assoc (take a front) (new ++ drop j (drop a front)) back
    ∙ ap (λ t. take a front ++ t) (append_assoc new (drop j (drop a front)) back)
    ∙ sym
    (ap (λ w. put_chunk a w new) (sym e)
    ∙ put_chunk_is a (front ++ back) new (omega (arith, length-append front back))
    ∙ (λ i. take-append-le a front back (omega arith) i ++ (new ++ rest i)))
  where
    rest : drop (length new) (drop a (front ++ back)) ≡ drop j (drop a front) ++ back
    rest =
        (λ i. drop (l i) (drop-append-le a front back (omega arith) i))
        ∙ drop-append-le j (drop a front) back (omega (arith, length-drop a front))

pub put_back : (a j : ℕ) (words front back new : List ℕ) → front ≡ take a words → back ≡ drop a words → length new ≡ j → a + j ≤ length words
    → front ++ (new ++ drop j back) ≡ put_chunk a words new
put_back a j words front back new ef eb l le =
    sym (put_chunk_is a words new (omega arith) ∙ (λ i. sym ef i ++ (new ++ drop (l i) (sym eb i))))

pub put_middle : (a j : ℕ) (words new : List ℕ) → length new ≡ j → a + j ≤ length words
    → take a words ++ (new ++ drop j (drop a words)) ≡ put_chunk a words new
put_middle a j words new l le = sym (put_chunk_is a words new (omega arith) ∙ ap (λ n. take a words ++ (new ++ drop n (drop a words))) l)

-- a part that was written through a slice of it
pub IsRewritten-part : (k a j size : ℕ) (words new : List ℕ) (P : List ℕ → Type 0) → k ≡ a → j ≡ size → length new ≡ size → a + size ≤ length words → P new
    → IsRewritten a size words (take k words ++ (new ++ drop j (drop k words))) P
IsRewritten-part k a j size words new P ek ej l le p =
    subst (λ w. IsRewritten a size words w P) (sym is) record { words = ap (put_chunk a words) (sym read); size_is = ap length read ∙ l; holds = subst P (sym read) p }
  where
    is : take k words ++ (new ++ drop j (drop k words)) ≡ put_chunk a words new
    is = (λ i. take (ek i) words ++ (new ++ drop (ej i) (drop (ek i) words))) ∙ put_middle a size words new l le

    read : chunk a size (put_chunk a words new) ≡ new
    read = ap (chunk a size) (put_chunk_is a words new (omega arith)) ∙ ap (take size) (drop_at (take a words) (new ++ drop (length new) (drop a words)) a (length-take-le a words (omega arith))) ∙ take_at new (drop (length new) (drop a words)) size l

-- a part that was written over itself
pub put_same : (k s : ℕ) (ws : List ℕ) → k + s ≤ length ws → put_chunk k ws (chunk k s ws) ≡ ws
put_same k s ws le =
    let l = length-chunk k s ws le in
    sym (put_middle k s ws (chunk k s ws) l le) ∙ ap (λ t. take k ws ++ t) (take-append-drop s (drop k ws)) ∙ take-append-drop k ws

-- Rows are determined by their letters: equal letters lie in equal words.
use Rattle.stab_pauli.proofs.Names.{◌≡◌, ℕ, zero, suc, ◌+◌, ◌*◌, ◌/◌, ◌%◌, ◌^◌, ◌<◌, Bool, true, false, refl, sym, ◌∙◌, ap, List, [], ◌∷◌, ◌++◌, length, get_or, take, drop, map, arith, rules, subst, inl, inr, eqb, length-drop, ◌⊎◌, ◌↔◌, All, zip2, pow-suc, take_at, drop_at, take-append-drop, drop-drop, get_or-drop, length-map, length-take-le, All-head, All-tail, Letter, I, X, Y, Z, Phase, Zero, has_x, Signed, Rows, unsigned_rows, lowest, letter_of_bits, word_letters, packed_letters, AreShort, row_letters, blocks_of, full_rows, IsPadded, row_sign, signed_row, power_of, IsSign}
use Rattle.std.specs.Bool.{IsTrue}
use Rattle.stab_pauli.proofs.PowerLemmas.{power_determined, power_of-determines}
use Rattle.stab_pauli.proofs.BitLemmas.{two_cases, below_two}
use Rattle.stab_pauli.proofs.PositionLemmas.{has_x_bits}
use Rattle.stab_pauli.proofs.PackedLemmas.{length-word_letters}
use Rattle.stab_pauli.proofs.RowLemmas.{length-front, length-second, length-rest, length-block}
use Rattle.stab_pauli.proofs.TableLemmas.{length-full_rows}
use Rattle.stab_pauli.proofs.SeenLemmas.{IsSeen, rows_seen, AreAlike, both_seen}

-- letters

-- whether a letter has a Z bit
has_z : Letter → Bool
has_z I = false
has_z X = false
has_z Y = true
has_z Z = true

z_bits : (x z : Bool) → has_z (letter_of_bits x z) ≡ z
unfolding has_z
z_bits false false = refl
z_bits false true = refl
z_bits true false = refl
z_bits true true = refl

x_determined : (a b c d : Bool) → letter_of_bits a b ≡ letter_of_bits c d → a ≡ c
x_determined a b c d e = sym (has_x_bits a b) ∙ ap has_x e ∙ has_x_bits c d

z_determined : (a b c d : Bool) → letter_of_bits a b ≡ letter_of_bits c d → b ≡ d
z_determined a b c d e = sym (z_bits a b) ∙ ap has_z e ∙ z_bits c d

-- words

lowest_determined : (x y : ℕ) → lowest x ≡ lowest y → x % 2 ≡ y % 2
lowest_determined x y e = by_cases (two_cases (x % 2) (below_two x)) (two_cases (y % 2) (below_two y))
  where
    by_cases : (x % 2 ≡ 0) ⊎ (x % 2 ≡ 1) → (y % 2 ≡ 0) ⊎ (y % 2 ≡ 1) → x % 2 ≡ y % 2
    by_cases (inl p) (inl q) = p ∙ sym q
    by_cases (inl p) (inr q) = absurd (no (ap (λ n. eqb n 1) (sym p) ∙ e ∙ ap (λ n. eqb n 1) q))
      where
        no : false ≡ true → ⊥
        no h = cc
    by_cases (inr p) (inl q) = absurd (no (ap (λ n. eqb n 1) (sym p) ∙ e ∙ ap (λ n. eqb n 1) q))
      where
        no : true ≡ false → ⊥
        no h = cc
    by_cases (inr p) (inr q) = p ∙ sym q

half_below : (n k : ℕ) → n < 2 ^ suc k → n / 2 < 2 ^ k
half_below n k h = let e : 2 ^ suc k ≡ 2 ^ k * 2 = pow-suc 2 k in omega (arith, e)

whole : (x y : ℕ) → x % 2 ≡ y % 2 → x / 2 ≡ y / 2 → x ≡ y
whole x y e f = omega arith

word_determined : (k x z x' z' : ℕ) → x < 2 ^ k → z < 2 ^ k → x' < 2 ^ k → z' < 2 ^ k → word_letters k x z ≡ word_letters k x' z' → (x ≡ x') × (z ≡ z')
unfolding word_letters
word_determined zero x z x' z' hx hz hx' hz' e = (omega arith, omega arith)
word_determined (suc k) x z x' z' hx hz hx' hz' e =
    let head : letter_of_bits (lowest x) (lowest z) ≡ letter_of_bits (lowest x') (lowest z') = ap (λ (l : List Letter). get_or l 0 I) e in
    let rest = word_determined k (x / 2) (z / 2) (x' / 2) (z' / 2) (half_below x k hx) (half_below z k hz) (half_below x' k hx') (half_below z' k hz') (ap (drop 1) e) in
    (whole x x' (lowest_determined x x' (x_determined (lowest x) (lowest z) (lowest x') (lowest z') head)) rest.0, whole z z' (lowest_determined z z' (z_determined (lowest x) (lowest z) (lowest x') (lowest z') head)) rest.1)

-- words of k bits

pub AreShort-same : (k : ℕ) (ws now : List ℕ) → now ≡ ws → AreShort k now → AreShort k ws
AreShort-same k ws now e s = subst (AreShort k) e s

short_head : (k w : ℕ) (ws : List ℕ) → AreShort k (w ∷ ws) → w < 2 ^ k
short_head k w ws s = s.below 0

pub short_tail : (k w : ℕ) (ws : List ℕ) → AreShort k (w ∷ ws) → AreShort k ws
short_tail k w ws s = record { below = λ i. s.below (suc i) }

pub short_drop : (k n : ℕ) (ws : List ℕ) → AreShort k ws → AreShort k (drop n ws)
short_drop k n ws s = record { below = λ i. rw (get_or-drop n ws i 0) (s.below (n + i)) }

pub short_more : (k w : ℕ) (ws : List ℕ) → w < 2 ^ k → AreShort k ws → AreShort k (w ∷ ws)
short_more k w ws h s = record { below = at }
  where
    at : (i : ℕ) → get_or (w ∷ ws) i 0 < 2 ^ k
    at zero = h
    at (suc i) = s.below i

pub short_take : (k n : ℕ) (ws : List ℕ) → AreShort k ws → AreShort k (take n ws)
short_take k zero ws s = record { below = λ i. let h = s.below 0 in omega arith }
short_take k (suc n) [] s = s
short_take k (suc n) (w ∷ ws) s = short_more k w (take n ws) (s.below 0) (short_take k n ws (short_tail k w ws s))

packed_determined : (k : ℕ) (xs zs xs' zs' : List ℕ) → length xs ≡ length zs → length xs ≡ length xs' → length xs ≡ length zs'
    → AreShort k xs → AreShort k zs → AreShort k xs' → AreShort k zs' → packed_letters k xs zs ≡ packed_letters k xs' zs' → (xs ≡ xs') × (zs ≡ zs')
packed_determined k [] [] [] [] a b c sx sz sx' sz' e = (refl, refl)
packed_determined k (x ∷ xs) (z ∷ zs) (x' ∷ xs') (z' ∷ zs') a b c sx sz sx' sz' e =
    let rest = packed_determined k xs zs xs' zs' (omega arith) (omega arith) (omega arith) (short_tail k x xs sx) (short_tail k z zs sz) (short_tail k x' xs' sx') (short_tail k z' zs' sz')
    (sym (drop_at (word_letters k x z) (packed_letters k xs zs) k (length-word_letters k x z)) ∙ ap (drop k) e ∙ drop_at (word_letters k x' z') (packed_letters k xs' zs') k (length-word_letters k x' z')) in
    ((λ i. first.0 i ∷ rest.0 i), (λ i. first.1 i ∷ rest.1 i))
  where
    first : (x ≡ x') × (z ≡ z')
    first = word_determined k x z x' z' (short_head k x xs sx) (short_head k z zs sz) (short_head k x' xs' sx') (short_head k z' zs' sz')
        (sym (take_at (word_letters k x z) (packed_letters k xs zs) k (length-word_letters k x z)) ∙ ap (take k) e ∙ take_at (word_letters k x' z') (packed_letters k xs' zs') k (length-word_letters k x' z'))
packed_determined k xs zs xs' zs' a b c sx sz sx' sz' e = absurd (omega arith)

-- rows

parts : (p : List ℕ) → take 4 p ++ (take 4 (drop 4 p) ++ drop 8 p) ≡ p
parts p = ap (λ t. take 4 p ++ (take 4 (drop 4 p) ++ t)) (sym (drop-drop 4 4 p)) ∙ ap (λ t. take 4 p ++ t) (take-append-drop 4 (drop 4 p)) ∙ take-append-drop 4 p

none_determined : (p q : List ℕ) → length p ≡ 0 → length q ≡ 0 → p ≡ q
none_determined [] [] a b = refl
none_determined [] (y ∷ q) a b = absurd (omega arith)
none_determined (x ∷ p) q a b = absurd (omega arith)

pub row_determined : (m : ℕ) (p q : List ℕ) → length p ≡ 8 * m → length q ≡ 8 * m → AreShort 64 p → AreShort 64 q → row_letters m p ≡ row_letters m q → p ≡ q
row_determined zero p q lp lq sp sq e = none_determined p q lp lq
row_determined (suc m) p q lp lq sp sq e =
    let rest = row_determined m (drop 8 p) (drop 8 q) (length-rest m p lp) (length-rest m q lq) (short_drop 64 8 p sp) (short_drop 64 8 q sq)
    (sym (drop_at (packed_letters 64 (take 4 p) (take 4 (drop 4 p))) (row_letters m (drop 8 p)) 256 (lb p lp)) ∙ ap (drop 256) e
    ∙ drop_at (packed_letters 64 (take 4 q) (take 4 (drop 4 q))) (row_letters m (drop 8 q)) 256 (lb q lq)) in
    sym (parts p) ∙ (λ i. block.0 i ++ (block.1 i ++ rest i)) ∙ parts q
  where
    lb : (r : List ℕ) → length r ≡ 8 * suc m → length (packed_letters 64 (take 4 r) (take 4 (drop 4 r))) ≡ 256
    lb r l = length-block (take 4 r) (take 4 (drop 4 r)) (length-front m r l) (length-second m r l)

    block : (take 4 p ≡ take 4 q) × (take 4 (drop 4 p) ≡ take 4 (drop 4 q))
    block = packed_determined 64 (take 4 p) (take 4 (drop 4 p)) (take 4 q) (take 4 (drop 4 q))
        (length-front m p lp ∙ sym (length-second m p lp)) (length-front m p lp ∙ sym (length-front m q lq)) (length-front m p lp ∙ sym (length-second m q lq))
        (short_take 64 4 p sp) (short_take 64 4 (drop 4 p) (short_drop 64 4 p sp)) (short_take 64 4 q sq) (short_take 64 4 (drop 4 q) (short_drop 64 4 q sq))
        (sym (take_at (packed_letters 64 (take 4 p) (take 4 (drop 4 p))) (row_letters m (drop 8 p)) 256 (lb p lp)) ∙ ap (take 256) e
        ∙ take_at (packed_letters 64 (take 4 q) (take 4 (drop 4 q))) (row_letters m (drop 8 q)) 256 (lb q lq))

rows_determined : (m count : ℕ) (p q : List ℕ) → length p ≡ 8 * m * count → length q ≡ 8 * m * count → AreShort 64 p → AreShort 64 q → full_rows m p count ≡ full_rows m q count → p ≡ q
rows_determined m zero p q lp lq sp sq e = none_determined p q (lp ∙ none) (lq ∙ none)
  where
    none : 8 * m * 0 ≡ 0
    none = omega arith
rows_determined m (suc count) p q lp lq sp sq e =
    let rest = rows_determined m count (drop (8 * m) p) (drop (8 * m) q) (lr p lp) (lr q lq) (short_drop 64 (8 * m) p sp) (short_drop 64 (8 * m) q sq) (ap (drop 1) e) in
    sym (take-append-drop (8 * m) p) ∙ (λ i. first i ++ rest i) ∙ take-append-drop (8 * m) q
  where
    one : 8 * m * suc count ≡ 8 * m + 8 * m * count
    one = grind arith

    lf : (r : List ℕ) → length r ≡ 8 * m * suc count → length (take (8 * m) r) ≡ 8 * m
    lf r l = length-take-le (8 * m) r (omega (arith, one))

    lr : (r : List ℕ) → length r ≡ 8 * m * suc count → length (drop (8 * m) r) ≡ 8 * m * count
    lr r l = omega (arith, one, length-drop (8 * m) r)

    first : take (8 * m) p ≡ take (8 * m) q
    first = row_determined m (take (8 * m) p) (take (8 * m) q) (lf p lp) (lf q lq) (short_take 64 (8 * m) p sp) (short_take 64 (8 * m) q sq) (ap (λ (l : List (List Letter)). get_or l 0 []) e)

-- the first n letters determine rows whose other letters are I

padded_determined : (n m : ℕ) (ls ls' : List (List Letter)) → All (IsPadded n m) ls → All (IsPadded n m) ls' → map (take n) ls ≡ map (take n) ls' → ls ≡ ls'
padded_determined n m [] [] h h' e = refl
padded_determined n m [] (l' ∷ ls') h h' e = absurd (let z = ap length e in omega arith)
padded_determined n m (l ∷ ls) [] h h' e = absurd (let z = ap length e in omega arith)
padded_determined n m (l ∷ ls) (l' ∷ ls') h h' e =
    λ i. (sym (take-append-drop n l) ∙ (λ j. front j ++ back j) ∙ take-append-drop n l') i ∷ padded_determined n m ls ls' (All-tail (IsPadded n m) l ls h) (All-tail (IsPadded n m) l' ls' h') (ap (drop 1) e) i
  where
    front : take n l ≡ take n l'
    front = ap (λ (t : List (List Letter)). get_or t 0 []) e

    back : drop n l ≡ drop n l'
    back = All-head (IsPadded n m) l ls h ∙ sym (All-head (IsPadded n m) l' ls' h')

-- what contracts see of letters and powers

letters_zip : (n : ℕ) (ps : List Phase) (ls : List (List Letter)) → length ps ≡ length ls → map (λ (p : Signed). p.letters) (zip2 (signed_row n) ps ls) ≡ map (take n) ls
letters_zip n [] [] e = refl
letters_zip n [] (l ∷ ls) e = absurd (omega arith)
letters_zip n (s ∷ ps) [] e = absurd (omega arith)
letters_zip n (s ∷ ps) (l ∷ ls) e = ap (λ t. take n l ∷ t) (letters_zip n ps ls (omega arith))

powers_zip : (n : ℕ) (ps : List Phase) (ls : List (List Letter)) → length ps ≡ length ls → All IsSign (zip2 (row_sign n) ps ls) → map power_of (zip2 (signed_row n) ps ls) ≡ ps
powers_zip n [] [] e h = refl
powers_zip n [] (l ∷ ls) e h = absurd (omega arith)
powers_zip n (k ∷ ps) [] e h = absurd (omega arith)
powers_zip n (k ∷ ps) (l ∷ ls) e h =
    λ i. sym (power_determined k (take n l) (All-head IsSign (row_sign n k l) (zip2 (row_sign n) ps ls) h)) i
    ∷ powers_zip n ps ls (omega arith) (All-tail IsSign (row_sign n k l) (zip2 (row_sign n) ps ls) h) i

pub letters_seen : {n m : ℕ} {ws : List ℕ} {ps : List Phase} {v : Rows} → IsSeen n m ws ps v → unsigned_rows v ≡ map (take n) (full_rows m ws (length ps))
letters_seen {n} {m} {ws} {ps} seen = ap unsigned_rows (sym seen.is) ∙ letters_zip n ps (full_rows m ws (length ps)) (sym (length-full_rows m ws (length ps)))

-- the powers of i before the bits of all
abbrev pub powers_of : Rows → List Phase
powers_of r = map power_of r.rows

pub powers_seen : {n m : ℕ} {ws : List ℕ} {ps : List Phase} {v : Rows} → IsSeen n m ws ps v → powers_of v ≡ ps
powers_seen {n} {m} {ws} {ps} seen = ap powers_of (sym seen.is) ∙ powers_zip n ps (full_rows m ws (length ps)) (sym (length-full_rows m ws (length ps))) seen.lies.signs

length-unsigned : (v : Rows) → length (unsigned_rows v) ≡ length v.rows
length-unsigned v = simp length-map

-- equal letters are of equally many rows
pub same_number : {n m : ℕ} {ws : List ℕ} {ps : List Phase} {v : Rows} {n' m' : ℕ} {ws' : List ℕ} {ps' : List Phase} {v' : Rows}
    → IsSeen n m ws ps v → IsSeen n' m' ws' ps' v' → unsigned_rows v ≡ unsigned_rows v' → length ps ≡ length ps'
same_number {v = v} {v' = v'} mine theirs el = sym (rows_seen mine) ∙ sym (length-unsigned v) ∙ ap length el ∙ length-unsigned v' ∙ rows_seen theirs

pub no_false : IsTrue false → ⊥
no_false h = search rules

-- tables of other powers are not the same
pub powers_distinct : {n m : ℕ} {ws : List ℕ} {ps : List Phase} {v : Rows} {n' m' : ℕ} {ws' : List ℕ} {ps' : List Phase} {v' : Rows}
    → IsSeen n m ws ps v → IsSeen n' m' ws' ps' v' → {mine theirs : List Phase} → mine ≡ ps → theirs ≡ ps' → (mine ≡ theirs → IsTrue false) → IsTrue false ↔ (v ≡ v')
powers_distinct seen seen' e e' alike = (
  (λ h. absurd (no_false h)),
  (λ same. absurd (no_false (alike (e ∙ sym (powers_seen seen) ∙ ap powers_of same ∙ powers_seen seen' ∙ sym e')))),
)

-- equal letters lie in equal words
pub words_determined : {n m : ℕ} {ws : List ℕ} {ps : List Phase} {v : Rows} {n' m' : ℕ} {ws' : List ℕ} {ps' : List Phase} {v' : Rows}
    → IsSeen n m ws ps v → IsSeen n' m' ws' ps' v' → AreShort 64 ws → AreShort 64 ws' → v.qubits ≡ v'.qubits → unsigned_rows v ≡ unsigned_rows v' → ws ≡ ws'
words_determined {n} {m} {ws} {ps} {v} {n'} {m'} {ws'} {ps'} {v'} mine theirs short short' eq el =
    rows_determined m (length ps) ws ws' mine.lies.size (sym both.words ∙ mine.lies.size) short short'
    (padded_determined n m (full_rows m ws (length ps)) (full_rows m ws' (length ps)) mine.lies.padded other
    (sym (letters_seen mine) ∙ el ∙ letters_seen theirs ∙ (λ i. map (take (sym both.qubits i)) (full_rows (sym both.blocks i) ws' (sym both.powers i)))))
  where
    number : length v.rows ≡ length v'.rows
    number = sym (length-unsigned v) ∙ ap length el ∙ length-unsigned v'

    both : AreAlike n m ws ps n' m' ws' ps'
    both = both_seen mine theirs eq number

    other : All (IsPadded n m) (full_rows m ws' (length ps))
    other =
        subst (λ c. All (IsPadded n m) (full_rows m ws' c)) (sym both.powers)
        (subst (λ k. All (IsPadded n k) (full_rows k ws' (length ps'))) (sym both.blocks) (subst (λ k. All (IsPadded k m') (full_rows m' ws' (length ps'))) (sym both.qubits) theirs.lies.padded))

-- and equal words have equal letters
pub letters_determined : {n m : ℕ} {ws : List ℕ} {ps : List Phase} {v : Rows} {n' m' : ℕ} {ws' : List ℕ} {ps' : List Phase} {v' : Rows}
    → IsSeen n m ws ps v → IsSeen n' m' ws' ps' v' → n ≡ n' → length ps ≡ length ps' → ws ≡ ws' → unsigned_rows v ≡ unsigned_rows v'
letters_determined {n} {m} {ws} {ps} {v} {n'} {m'} {ws'} {ps'} {v'} mine theirs en es ew =
    letters_seen mine ∙ (λ i. map (take (en i)) (full_rows (em i) (ew i) (es i))) ∙ sym (letters_seen theirs)
  where
    em : m ≡ m'
    em = mine.lies.blocks.count ∙ ap blocks_of en ∙ sym theirs.lies.blocks.count

rows_by : (us vs : List Signed) → map power_of us ≡ map power_of vs → map (λ (p : Signed). p.letters) us ≡ map (λ (p : Signed). p.letters) vs → us ≡ vs
rows_by [] [] ep el = refl
rows_by [] (v ∷ vs) ep el = absurd (let z = ap length ep in omega arith)
rows_by (u ∷ us) [] ep el = absurd (let z = ap length ep in omega arith)
rows_by (u ∷ us) (v ∷ vs) ep el = λ i. record { negative = power_of-determines u v letters power i; letters = letters i } ∷ rows_by us vs (ap (drop 1) ep) (ap (drop 1) el) i
  where
    power : power_of u ≡ power_of v
    power = ap (λ (l : List Phase). get_or l 0 Zero) ep

    letters : u.letters ≡ v.letters
    letters = ap (λ (l : List (List Letter)). get_or l 0 []) el

-- letters and powers determine the rows
pub all_determined : {n m : ℕ} {ws : List ℕ} {ps : List Phase} {v : Rows} {n' m' : ℕ} {ws' : List ℕ} {ps' : List Phase} {v' : Rows}
    → IsSeen n m ws ps v → IsSeen n' m' ws' ps' v' → ps ≡ ps' → v.qubits ≡ v'.qubits → unsigned_rows v ≡ unsigned_rows v' → v ≡ v'
all_determined {v = v} {v' = v'} mine theirs es eq el = λ i. record { qubits = eq i; rows = rows_by v.rows v'.rows (powers_seen mine ∙ es ∙ sym (powers_seen theirs)) el i }

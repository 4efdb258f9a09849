-- What contracts see of a table: its rows one by one, and a row that was replaced.
use Rattle.stab_pauli.proofs.Names.{◌≡◌, ℕ, ◌+◌, ◌*◌, ◌<◌, ◌≤◌, Bool, true, false, refl, sym, ◌∙◌, ap, List, ◌++◌, length, get_or, set, take, drop, replicate, arith, subst, chunk, put_chunk, length-set, get_or-set_same, Letter, I, Phase, Zero, Quarter, phase_add, phase_of_sign, phase_inverse, Signed, identity, with_sign, anticommute, product, string_product, phased, times_phase, phased_product, Rows, row_at, with_row, with_letter, swapped_rows, product_times_i, xor_words, swapped_words, string_power, strings_meet, power_of, letter_power, row_letters, blocks_of, AreBlocks, IsRow, IsTable, table}
use Rattle.stab_pauli.proofs.SignedLemmas.{phased-times_phase}
use Rattle.stab_pauli.proofs.PowerLemmas.{power_of-product, power_of-times_phase, power_of-with_sign, power_of-with_letter}
use Rattle.stab_pauli.proofs.BlankLemmas.{fits, IsSigned-none, signed_row-none}
use Rattle.stab_pauli.proofs.RowLemmas.{put_same}
use Rattle.stab_pauli.proofs.SwapLemmas.{length-swapped}
use Rattle.stab_pauli.proofs.PaddedLemmas.{IsView, view_of, lies_of, is_of, length-view, IsRow-none, letters-none, IsRow-read, letters-read, meet-product, IsRow-set, letters-set, IsRow-written, letters-written, IsFitting, fitting_numbers, written_all}
use Rattle.stab_pauli.proofs.LetterMaskLemmas.{string-letter}
use Rattle.stab_pauli.proofs.TableLemmas.{padded-power, length-table, row_at-table, table-put, IsTable-put, padded-row, sign-row, length-row_at, row_fits, written, get_or-any}

-- words and powers of a table that contracts see as v
pub record IsSeen (n m : ℕ) (ws : List ℕ) (ps : List Phase) (v : Rows) : Type 0 where
  pub lies : IsTable n m ws ps
  pub is : table n m ws ps ≡ v

pub seen_of : {n m : ℕ} {ws : List ℕ} {ps : List Phase} {v : Rows} → IsTable n m ws ps → table n m ws ps ≡ v → IsSeen n m ws ps v
seen_of lies is = record { lies = lies; is = is }

pub rows_seen : {n m : ℕ} {ws : List ℕ} {ps : List Phase} {v : Rows} → IsSeen n m ws ps v → length v.rows ≡ length ps
rows_seen {n} {m} {ws} {ps} {v} seen = length-table n m ws ps v seen.is

pub qubits_seen : {n m : ℕ} {ws : List ℕ} {ps : List Phase} {v : Rows} → IsSeen n m ws ps v → n ≡ v.qubits
qubits_seen seen = ap (λ (r : Rows). r.qubits) seen.is

pub in_seen : {n m : ℕ} {ws : List ℕ} {ps : List Phase} {v : Rows} → IsSeen n m ws ps v → (a : ℕ) → a < length v.rows → a < length ps
in_seen seen a lt = subst (λ k. a < k) (rows_seen seen) lt

pub position_seen : {n m : ℕ} {ws : List ℕ} {ps : List Phase} {v : Rows} → IsSeen n m ws ps v → (q : ℕ) → q < v.qubits → q < 256 * m
position_seen {n} {m} seen q lt =
    let f = fits n m seen.lies.blocks in
    let e = qubits_seen seen in
    omega arith

-- a position among the words and powers, by their counted number
pub counted_seen : {n m : ℕ} {ws : List ℕ} {ps : List Phase} {v : Rows} → IsSeen n m ws ps v → (a len : ℕ) → a < length v.rows → len ≡ length ps → a < len
counted_seen seen a len lt e = subst (λ k. a < k) (rows_seen seen ∙ sym e) lt

-- one row
pub row_seen : {n m : ℕ} {ws : List ℕ} {ps : List Phase} {v : Rows} → IsSeen n m ws ps v → (a : ℕ) → a < length ps
    → IsView n m (chunk (8 * m * a) (8 * m) ws) (get_or ps a Zero) (row_at v a)
row_seen {n} {m} {ws} {ps} seen a lt =
    view_of
    (record {
      row = record { blocks = seen.lies.blocks; size = length-row_at m ws ps a seen.lies.size lt; padded = padded-row n m ws ps a seen.lies lt };
      sign = sign-row n m ws ps a seen.lies lt;
    })
    (sym (row_at-table n m ws ps a lt) ∙ ap (λ r. row_at r a) seen.is)

-- one letter of it, by the row's words, or I if there is none
pub letter_seen : {n m : ℕ} {ws : List ℕ} {ps : List Phase} {v : Rows} → IsSeen n m ws ps v → (a q : ℕ) → a < length v.rows
    → {slice words : List ℕ} → words ≡ chunk (8 * m * a) (8 * m) slice → slice ≡ ws → get_or (row_letters m words) q I ≡ get_or (row_at v a).letters q I
letter_seen {n} {m} {ws} seen a q lt e es =
    let mine = row_seen seen a (in_seen seen a lt) in
    ap (λ (w : List ℕ). get_or (row_letters m w) q I) (e ∙ ap (λ (w : List ℕ). chunk (8 * m * a) (8 * m) w) es)
    ∙ sym (string-letter n m (chunk (8 * m * a) (8 * m) ws) mine.row q)
    ∙ ap (λ p. get_or p q I) mine.letters

-- another row instead of one
pub put_seen : {n m : ℕ} {ws : List ℕ} {ps : List Phase} {v : Rows} {new : List ℕ} {k : Phase} {p : Signed} → IsSeen n m ws ps v → (a : ℕ) → a < length ps
    → IsView n m new k p → IsSeen n m (put_chunk (8 * m * a) ws new) (set ps a k) (with_row v a p)
put_seen {n} {m} {ws} {ps} {v} {new} {k} seen a lt view = record {
  lies = IsTable-put n m ws ps a new k seen.lies lt (lies_of view);
  is = table-put n m ws ps a new k seen.lies lt view.row.size ∙ (λ i. with_row (seen.is i) a (is_of view i));
}

-- words that were written through a slice
pub written_seen : {n m : ℕ} {ps : List Phase} {v : Rows} (ws words new : List ℕ) (k len : ℕ) → words ≡ put_chunk k ws new → len ≡ length ws
    → IsSeen n m (put_chunk k ws new) ps v → IsSeen n m (take len (words ++ drop (length words) ws)) ps v
written_seen {n} {m} {ps} {v} ws words new k len e l seen = subst (λ w. IsSeen n m w ps v) (sym (written ws words new k len e l)) seen

-- the same words instead of these
pub preserved_words : {n m : ℕ} {ws : List ℕ} {ps : List Phase} {v : Rows} (k s : ℕ) → k + s ≤ length ws → IsSeen n m (put_chunk k ws (chunk k s ws)) ps v → IsSeen n m ws ps v
preserved_words {n} {m} {ws} {ps} {v} k s le seen = subst (λ w. IsSeen n m w ps v) (put_same k s ws le) seen

-- a power that was read
pub read_power : (ps : List Phase) (a : ℕ) (x : Phase) → a < length ps → x ≡ get_or ps a x → x ≡ get_or ps a Zero
read_power ps a x lt e = e ∙ get_or-any ps a x Zero lt

-- products

product_letters : {n m : ℕ} {ws ws' : List ℕ} {k k' : Phase} {v v' : Signed} (new : List ℕ) → IsView n m ws k v → IsView n m ws' k' v'
    → new ≡ xor_words ws ws' → take n (row_letters m new) ≡ string_product v.letters v'.letters
product_letters {n} {m} {ws} {ws'} new mine theirs e = letters-read n m ws ws' new mine.row theirs.row e ∙ (λ i. string_product (mine.letters i) (theirs.letters i))

product_power : {n m : ℕ} {ws ws' : List ℕ} {k k' : Phase} {v v' : Signed} (x y : Phase) (b : Bool) → IsView n m ws k v → IsView n m ws' k' v'
    → x ≡ k → y ≡ k' → b ≡ strings_meet (row_letters m ws) (row_letters m ws')
    → phase_add (phase_add x y) (phase_of_sign b) ≡ phase_add (phase_add (power_of v) (power_of v')) (phase_of_sign (strings_meet v.letters v'.letters))
product_power {n} {m} {ws} {ws'} x y b mine theirs ex ey eb =
    λ i. phase_add (phase_add ((ex ∙ mine.power) i) ((ey ∙ theirs.power) i))
    (phase_of_sign ((eb ∙ meet-product n m ws ws' mine.row theirs.row ∙ (λ j. strings_meet (mine.letters j) (theirs.letters j))) i))

pub product_view : {n m : ℕ} {ws ws' : List ℕ} {k k' : Phase} {v v' : Signed} (new : List ℕ) (x y r : Phase) (b : Bool) → IsView n m ws k v → IsView n m ws' k' v'
    → anticommute v v' ≡ false → new ≡ xor_words ws ws' → x ≡ k → y ≡ k' → b ≡ strings_meet (row_letters m ws) (row_letters m ws')
    → r ≡ phase_add (phase_add x y) (phase_of_sign b) → IsView n m new r (product v v')
product_view {n} {m} {ws} {ws'} {v = v} {v' = v'} new x y r b mine theirs distinct e ex ey eb er = record {
  row = IsRow-read n m ws ws' new mine.row theirs.row e;
  letters = product_letters new mine theirs e;
  power = er ∙ product_power x y b mine theirs ex ey eb ∙ power_of-product v v' distinct;
}

pub times_i_view : {n m : ℕ} {ws ws' : List ℕ} {k k' : Phase} {v v' : Signed} (new : List ℕ) (x y t r : Phase) (b : Bool) → IsView n m ws k v → IsView n m ws' k' v'
    → anticommute v v' ≡ true → new ≡ xor_words ws ws' → x ≡ k → y ≡ k' → b ≡ strings_meet (row_letters m ws) (row_letters m ws')
    → t ≡ phase_add (phase_add x y) (phase_of_sign b) → r ≡ phase_add Quarter t → IsView n m new r (product_times_i v v')
times_i_view {n} {m} {ws} {ws'} {v = v} {v' = v'} new x y t r b mine theirs distinct e ex ey eb et er = record {
  row = IsRow-read n m ws ws' new mine.row theirs.row e;
  letters = product_letters new mine theirs e;
  power = er ∙ ap (phase_add Quarter) (et ∙ product_power x y b mine theirs ex ey eb) ∙ power_of-times_phase v v' distinct;
}

-- i times a product of two that anticommute, as it is among all powers of i
pub phased_product-times_phase : (p q : Signed) → anticommute p q ≡ true → phased (product_times_i p q) ≡ times_phase Quarter (phased_product (phased p) (phased q))
phased_product-times_phase p q e = phased-times_phase p q (product_times_i p q) e refl refl

-- the row that was put
pub row_at-with_row : (v : Rows) (a : ℕ) (p : Signed) → a < length v.rows → row_at (with_row v a p) a ≡ p
row_at-with_row v a p lt = get_or-set_same v.rows a p (identity v.qubits) lt

-- other changes of a row

pub blank_view : (n m : ℕ) (ws : List ℕ) → AreBlocks n m → ws ≡ replicate (8 * m) 0 → IsView n m ws Zero (identity n)
blank_view n m ws eb e =
    let row = IsRow-none n m ws eb e in
    let letters = letters-none n m ws eb e in
    view_of (IsSigned-none n m ws row letters) (signed_row-none n (row_letters m ws) letters)

pub letter_view : {n m : ℕ} {ws : List ℕ} {k : Phase} {v : Signed} (new : List ℕ) (q : ℕ) (old x : Letter) (r : Phase) → IsView n m ws k v → q < n → length new ≡ 8 * m
    → row_letters m new ≡ set (row_letters m ws) q x → old ≡ get_or v.letters q I → r ≡ phase_add (phase_inverse (letter_power old)) (phase_add (letter_power x) k) → IsView n m new r (with_letter q x v)
letter_view {n} {m} {ws} {k} {v} new q old x r mine lt l e eo er = record {
  row = IsRow-set n m ws new q x mine.row lt l e;
  letters = letters-set n m ws new q x lt e ∙ ap (λ p. set p q x) mine.letters;
  power = er ∙ (λ i. phase_add (phase_inverse (letter_power (eo i))) (phase_add (letter_power x) (mine.power i)))
      ∙ power_of-with_letter v q x (subst (λ j. q < j) (sym (length-view mine)) lt);
}

-- a sign that was flipped
pub signed_view : {n m : ℕ} {ws : List ℕ} {k : Phase} {v : Signed} (b : Bool) (x r : Phase) → IsView n m ws k v → x ≡ k → r ≡ phase_add x (phase_of_sign b) → IsView n m ws r (with_sign b v)
signed_view {v = v} b x r mine ex er = record { row = mine.row; letters = mine.letters; power = er ∙ ap (λ t. phase_add t (phase_of_sign b)) (ex ∙ mine.power) ∙ power_of-with_sign b v }

-- the letters of a product with the first string's sign, that was read, written through a slice
pub written_resigned : {n m : ℕ} {ws ws' : List ℕ} {k k' : Phase} {v v' : Signed} (new : List ℕ) (len : ℕ) (s : Bool) (r : Phase) → IsView n m ws k v → len ≡ length ws → IsView n m ws' k' v'
    → new ≡ xor_words ws ws' → s ≡ v.negative → r ≡ phase_add (phase_of_sign s) (string_power (row_letters m (take len (new ++ drop (length new) ws))))
    → IsView n m (take len (new ++ drop (length new) ws)) r (record v { letters = string_product v.letters v'.letters })
written_resigned {n} {m} {ws} {ws'} {v = v} {v' = v'} new len s r mine l theirs e es er = record {
  row = row;
  letters = letters;
  power = er ∙ (λ i. phase_add (phase_of_sign (es i)) ((padded-power n m (row_letters m (take len (new ++ drop (length new) ws))) row.padded ∙ ap string_power letters) i));
}
  where
    is : IsRow n m new
    is = IsRow-read n m ws ws' new mine.row theirs.row e

    row : IsRow n m (take len (new ++ drop (length new) ws))
    row = IsRow-written n m ws new len mine.row l is

    letters : take n (row_letters m (take len (new ++ drop (length new) ws))) ≡ string_product v.letters v'.letters
    letters = letters-written n m ws new len mine.row l is ∙ product_letters new mine theirs e

-- another string's words
pub same_view : {n m : ℕ} {ws : List ℕ} {k : Phase} {v : Signed} (new : List ℕ) (r : Phase) → IsView n m ws k v → new ≡ ws → r ≡ k → IsView n m new r v
same_view {n} {m} {ws} {k} {v} new r mine e er = subst (λ w. IsView n m w r v) (sym e) (subst (λ t. IsView n m ws t v) (sym er) mine)

-- a single string beside a table of the same length
pub fitting : {n m : ℕ} {ws : List ℕ} {ps : List Phase} {v : Rows} {n' m' : ℕ} {ws' : List ℕ} {k' : Phase} {v' : Signed}
    → IsSeen n m ws ps v → IsView n' m' ws' k' v' → length v'.letters ≡ v.qubits → IsFitting n m n' m' ws' k' v'
fitting seen view l = fitting_numbers seen.lies.blocks (qubits_seen seen ∙ sym l ∙ length-view view) view

-- two tables of the same numbers

pub record AreAlike (n m : ℕ) (ws : List ℕ) (ps : List Phase) (n' m' : ℕ) (ws' : List ℕ) (ps' : List Phase) : Type 0 where
  pub qubits : n ≡ n'
  pub blocks : m ≡ m'
  pub powers : length ps ≡ length ps'
  pub words : length ws ≡ length ws'

pub both_seen : {n m : ℕ} {ws : List ℕ} {ps : List Phase} {v : Rows} {n' m' : ℕ} {ws' : List ℕ} {ps' : List Phase} {v' : Rows}
    → IsSeen n m ws ps v → IsSeen n' m' ws' ps' v' → v.qubits ≡ v'.qubits → length v.rows ≡ length v'.rows → AreAlike n m ws ps n' m' ws' ps'
both_seen {n} {m} {ws} {ps} {v} {n'} {m'} {ws'} {ps'} {v'} mine theirs eq er = record {
  qubits = en;
  blocks = em;
  powers = es;
  words = mine.lies.size ∙ (λ i. 8 * em i * es i) ∙ sym theirs.lies.size;
}
  where
    en : n ≡ n'
    en = qubits_seen mine ∙ eq ∙ sym (qubits_seen theirs)

    em : m ≡ m'
    em = mine.lies.blocks.count ∙ ap blocks_of en ∙ sym theirs.lies.blocks.count

    es : length ps ≡ length ps'
    es = sym (rows_seen mine) ∙ er ∙ rows_seen theirs

-- rows that were exchanged

pub swapped_seen : {n m : ℕ} {ws : List ℕ} {ps : List Phase} {v : Rows} → IsSeen n m ws ps v → (a b : ℕ) → a < length ps → b < length ps
    → IsSeen n m (swapped_words (8 * m * a) (8 * m * b) (8 * m) ws) (set (set ps a (get_or ps b Zero)) b (get_or ps a Zero)) (swapped_rows v a b)
swapped_seen {n} {m} {ws} {ps} {v} mine a b la lb =
    put_seen (put_seen mine a la (row_seen mine b lb)) b (rw (length-set ps a (get_or ps b Zero)) lb) (row_seen mine a la)

-- a row whose sign was flipped
pub negated_seen : {n m : ℕ} {ws : List ℕ} {ps : List Phase} {v : Rows} → IsSeen n m ws ps v → (a : ℕ) (b : Bool) (x r : Phase) → a < length ps → x ≡ get_or ps a x → r ≡ phase_add x (phase_of_sign b)
    → IsSeen n m ws (set ps a r) (with_row v a (with_sign b (row_at v a)))
negated_seen {n} {m} {ws} {ps} {v} mine a b x r la ex er =
    preserved_words (8 * m * a) (8 * m) (row_fits m (length ps) a (length ws) la mine.lies.size)
    (put_seen mine a la (signed_view b x r (row_seen mine a la) (read_power ps a x la ex) er))

pub swapped_written : {n m : ℕ} {ws : List ℕ} {ps : List Phase} {v : Rows} → IsSeen n m ws ps v → (a b : ℕ) → a < length ps → b < length ps
    → (words : List ℕ) (powers : List Phase) (len : ℕ) → words ≡ swapped_words (8 * m * a) (8 * m * b) (8 * m) ws → powers ≡ set (set ps a (get_or ps b Zero)) b (get_or ps a Zero)
    → len ≡ length ws → IsSeen n m (take len (words ++ drop (length words) ws)) powers (swapped_rows v a b)
swapped_written {n} {m} {ws} {ps} {v} mine a b la lb words powers len ew es l =
    subst (λ w. IsSeen n m w powers (swapped_rows v a b)) (sym (written_all ws words len (ap length ew ∙ length-swapped (8 * m * a) (8 * m * b) (8 * m) ws) l ∙ ew))
    (subst (λ s. IsSeen n m (swapped_words (8 * m * a) (8 * m * b) (8 * m) ws) s (swapped_rows v a b)) (sym es) (swapped_seen mine a b la lb))

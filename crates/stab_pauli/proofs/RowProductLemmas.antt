-- Products with a row of a table, read and written through slices of its words, as contracts see them.
use Rattle.stab_pauli.proofs.Names.{◌≡◌, ℕ, ◌*◌, ◌<◌, Bool, true, false, refl, sym, ◌∙◌, ap, subst, List, ◌++◌, length, get_or, set, take, drop, arith, length-drop, take_all, take-append-drop, chunk, put_chunk, Phase, Quarter, phase_add, phase_of_sign, Signed, anticommute, product, Rows, row_at, with_row, product_times_i, xor_words, strings_meet, blocks_of, row_letters}
use Rattle.stab_pauli.proofs.PaddedLemmas.{IsView, IsFitting, same_numbers, alike, written_view}
use Rattle.stab_pauli.proofs.SeenLemmas.{IsSeen, qubits_seen, row_seen, put_seen, written_seen, read_power, product_view, times_i_view, fitting}

-- a slice of words that was multiplied at row a by others, and whether bits met
pub record IsTimes (m a : ℕ) (slice other words : List ℕ) (b : Bool) : Type 0 where
  pub words_are : words ≡ put_chunk (8 * m * a) slice (xor_words (chunk (8 * m * a) (8 * m) slice) other)
  pub meet_is : b ≡ strings_meet (row_letters m (chunk (8 * m * a) (8 * m) slice)) (row_letters m other)

-- the same of the words that the slice is of
read_times : {m a : ℕ} {slice other words : List ℕ} {b : Bool} (ws ws' : List ℕ) → slice ≡ ws → other ≡ ws' → IsTimes m a slice other words b → IsTimes m a ws ws' words b
read_times {m} {a} ws ws' es eo times = record {
  words_are = times.words_are ∙ (λ i. put_chunk (8 * m * a) (es i) (xor_words (chunk (8 * m * a) (8 * m) (es i)) (eo i)));
  meet_is = times.meet_is ∙ (λ i. strings_meet (row_letters m (chunk (8 * m * a) (8 * m) (es i))) (row_letters m (eo i)));
}

-- row a, multiplied by a string
pub product_seen : {n m : ℕ} {ws : List ℕ} {ps : List Phase} {v : Rows} {ws' : List ℕ} {k' : Phase} {v' : Signed} {slice other : List ℕ} → IsSeen n m ws ps v → IsView n m ws' k' v'
    → (a : ℕ) → a < length ps → anticommute (row_at v a) v' ≡ false → (words : List ℕ) (len : ℕ) (x y r : Phase) (b : Bool) → slice ≡ ws → other ≡ ws' → IsTimes m a slice other words b
    → x ≡ get_or ps a x → y ≡ k' → r ≡ phase_add (phase_add x y) (phase_of_sign b) → len ≡ length ws
    → IsSeen n m (take len (words ++ drop (length words) ws)) (set ps a r) (with_row v a (product (row_at v a) v'))
product_seen {n} {m} {ws} {ps} {v} {ws'} mine theirs a la distinct words len x y r b es eo times ex ey er l =
    written_seen ws words (xor_words (chunk (8 * m * a) (8 * m) ws) ws') (8 * m * a) len read.words_are l
    (put_seen mine a la (product_view (xor_words (chunk (8 * m * a) (8 * m) ws) ws') x y r b (row_seen mine a la) theirs distinct refl (read_power ps a x la ex) ey read.meet_is er))
  where
    read : IsTimes m a ws ws' words b
    read = read_times ws ws' es eo times

-- i times that product
pub times_i_seen : {n m : ℕ} {ws : List ℕ} {ps : List Phase} {v : Rows} {ws' : List ℕ} {k' : Phase} {v' : Signed} {slice other : List ℕ} → IsSeen n m ws ps v → IsView n m ws' k' v'
    → (a : ℕ) → a < length ps → anticommute (row_at v a) v' ≡ true → (words : List ℕ) (len : ℕ) (x y t r : Phase) (b : Bool) → slice ≡ ws → other ≡ ws' → IsTimes m a slice other words b
    → x ≡ get_or ps a x → y ≡ k' → t ≡ phase_add (phase_add x y) (phase_of_sign b) → r ≡ phase_add Quarter t → len ≡ length ws
    → IsSeen n m (take len (words ++ drop (length words) ws)) (set ps a r) (with_row v a (product_times_i (row_at v a) v'))
times_i_seen {n} {m} {ws} {ps} {v} {ws'} mine theirs a la distinct words len x y t r b es eo times ex ey et er l =
    written_seen ws words (xor_words (chunk (8 * m * a) (8 * m) ws) ws') (8 * m * a) len read.words_are l
    (put_seen mine a la (times_i_view (xor_words (chunk (8 * m * a) (8 * m) ws) ws') x y t r b (row_seen mine a la) theirs distinct refl (read_power ps a x la ex) ey read.meet_is et er))
  where
    read : IsTimes m a ws ws' words b
    read = read_times ws ws' es eo times

-- a string beside a table of its length, by the table's numbers as contracts see them
pub string_viewed : {n m : ℕ} {ws : List ℕ} {ps : List Phase} {v : Rows} {n' m' : ℕ} {ws' : List ℕ} {k' : Phase} {v' : Signed} → IsSeen n m ws ps v → IsView n' m' ws' k' v'
    → length v'.letters ≡ v.qubits → (words : List ℕ) → words ≡ ws' → IsView v.qubits (blocks_of v.qubits) words k' v'
string_viewed {n} {m} {ws} {ps} {v} {n'} {m'} {ws'} {k'} {v'} mine theirs l words e =
    let fit = fitting mine theirs l in
    subst (λ w. IsView v.qubits (blocks_of v.qubits) w k' v') (sym e)
    (same_numbers v.qubits (blocks_of v.qubits) (qubits_seen mine) (mine.lies.blocks.count ∙ ap blocks_of (qubits_seen mine)) fit.view)

-- a string of one block beside a table of its length, by its words with X bits and those with Z bits
pub block_viewed : {n m : ℕ} {ws : List ℕ} {ps : List Phase} {v : Rows} {n' m' : ℕ} {ws' : List ℕ} {k' : Phase} {v' : Signed} → IsSeen n m ws ps v → IsView n' m' ws' k' v'
    → length v'.letters ≡ v.qubits → m ≡ 1 → (words : List ℕ) → words ≡ ws' → IsView v.qubits 1 (take 4 words ++ take 4 (drop 4 words)) k' v'
block_viewed {n} {m} {ws} {ps} {v} {n'} {m'} {ws'} {k'} {v'} mine theirs l one words e =
    subst (λ w. IsView v.qubits 1 w k' v') (sym whole) (same_numbers v.qubits 1 (qubits_seen mine) one fit.view)
  where
    fit : IsFitting n m n' m' ws' k' v'
    fit = fitting mine theirs l

    whole : take 4 words ++ take 4 (drop 4 words) ≡ ws'
    whole =
        ap (λ w. take 4 words ++ w) (take_all 4 (drop 4 words) (let size = fit.view.row.size in let same = ap length e in omega (arith, length-drop 4 words)))
        ∙ take-append-drop 4 words ∙ e

-- a string that was multiplied by a row that was read, and whether bits met
pub record IsTimesRow (m : ℕ) (slice read words : List ℕ) (b : Bool) : Type 0 where
  pub words_are : words ≡ xor_words slice read
  pub meet_is : b ≡ strings_meet (row_letters m slice) (row_letters m read)

read_times_row : {m : ℕ} {slice read words : List ℕ} {b : Bool} (ws ws' : List ℕ) → slice ≡ ws → read ≡ ws' → IsTimesRow m slice read words b → IsTimesRow m ws ws' words b
read_times_row {m} ws ws' es er times = record {
  words_are = times.words_are ∙ (λ i. xor_words (es i) (er i));
  meet_is = times.meet_is ∙ (λ i. strings_meet (row_letters m (es i)) (row_letters m (er i)));
}

-- a string, multiplied by row a
pub product_viewed : {n m : ℕ} {ws : List ℕ} {ps : List Phase} {v : Rows} {n' m' : ℕ} {ws' : List ℕ} {k' : Phase} {v' : Signed} {slice read : List ℕ} → IsSeen n m ws ps v → IsView n' m' ws' k' v'
    → length v'.letters ≡ v.qubits → (a : ℕ) → a < length ps → anticommute v' (row_at v a) ≡ false → (words : List ℕ) (len : ℕ) (y r : Phase) (b : Bool) → slice ≡ ws' → read ≡ chunk (8 * m * a) (8 * m) ws
    → IsTimesRow m slice read words b → y ≡ get_or ps a y → r ≡ phase_add (phase_add k' y) (phase_of_sign b) → len ≡ length ws'
    → IsView n' m' (take len (words ++ drop (length words) ws')) r (product v' (row_at v a))
product_viewed {n} {m} {ws} {ps} {v} {n'} {m'} {ws'} {k'} mine theirs l a la distinct words len y r b es er times ey e el =
    let fit = fitting mine theirs l in
    let read = read_times_row ws' (chunk (8 * m * a) (8 * m) ws) es er times in
    written_view words len theirs el (same_numbers n' m' fit.qubits fit.blocks
    (product_view words k' y r b fit.view (row_seen mine a la) distinct read.words_are refl (read_power ps a y la ey) read.meet_is e))

-- i times that product
pub times_i_viewed : {n m : ℕ} {ws : List ℕ} {ps : List Phase} {v : Rows} {n' m' : ℕ} {ws' : List ℕ} {k' : Phase} {v' : Signed} {slice read : List ℕ} → IsSeen n m ws ps v → IsView n' m' ws' k' v'
    → length v'.letters ≡ v.qubits → (a : ℕ) → a < length ps → anticommute v' (row_at v a) ≡ true → (words : List ℕ) (len : ℕ) (y t r : Phase) (b : Bool) → slice ≡ ws' → read ≡ chunk (8 * m * a) (8 * m) ws
    → IsTimesRow m slice read words b → y ≡ get_or ps a y → t ≡ phase_add (phase_add k' y) (phase_of_sign b) → r ≡ phase_add Quarter t → len ≡ length ws'
    → IsView n' m' (take len (words ++ drop (length words) ws')) r (product_times_i v' (row_at v a))
times_i_viewed {n} {m} {ws} {ps} {v} {n'} {m'} {ws'} {k'} mine theirs l a la distinct words len y t r b es er times ey et e el =
    let fit = fitting mine theirs l in
    let read = read_times_row ws' (chunk (8 * m * a) (8 * m) ws) es er times in
    written_view words len theirs el (same_numbers n' m' fit.qubits fit.blocks
    (times_i_view words k' y t r b fit.view (row_seen mine a la) distinct read.words_are refl (read_power ps a y la ey) read.meet_is et e))

-- a string, multiplied by another
pub product_of : {n m : ℕ} {ws : List ℕ} {k : Phase} {v : Signed} {n' m' : ℕ} {ws' : List ℕ} {k' : Phase} {v' : Signed} {slice read : List ℕ} → IsView n m ws k v → IsView n' m' ws' k' v'
    → length v.letters ≡ length v'.letters → anticommute v v' ≡ false → (words : List ℕ) (len : ℕ) (r : Phase) (b : Bool) → slice ≡ ws → read ≡ ws'
    → IsTimesRow m slice read words b → r ≡ phase_add (phase_add k k') (phase_of_sign b) → len ≡ length ws
    → IsView n m (take len (words ++ drop (length words) ws)) r (product v v')
product_of {n} {m} {ws} {k} {v} {n'} {m'} {ws'} {k'} mine theirs l distinct words len r b es er times e el =
    let fit = alike mine theirs l in
    let read = read_times_row ws ws' es er times in
    written_view words len mine el (product_view words k k' r b mine fit.view distinct read.words_are refl refl read.meet_is e)

-- i times that product
pub times_i_of : {n m : ℕ} {ws : List ℕ} {k : Phase} {v : Signed} {n' m' : ℕ} {ws' : List ℕ} {k' : Phase} {v' : Signed} {slice read : List ℕ} → IsView n m ws k v → IsView n' m' ws' k' v'
    → length v.letters ≡ length v'.letters → anticommute v v' ≡ true → (words : List ℕ) (len : ℕ) (t r : Phase) (b : Bool) → slice ≡ ws → read ≡ ws'
    → IsTimesRow m slice read words b → t ≡ phase_add (phase_add k k') (phase_of_sign b) → r ≡ phase_add Quarter t → len ≡ length ws
    → IsView n m (take len (words ++ drop (length words) ws)) r (product_times_i v v')
times_i_of {n} {m} {ws} {k} {v} {n'} {m'} {ws'} {k'} mine theirs l distinct words len t r b es er times et e el =
    let fit = alike mine theirs l in
    let read = read_times_row ws ws' es er times in
    written_view words len mine el (times_i_view words k k' t r b mine fit.view distinct read.words_are refl refl read.meet_is et e)

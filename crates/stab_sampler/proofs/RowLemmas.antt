-- Rows: the bytes of a lane of blocks begin with those of its bits in b8.
use Rattle.stab_sampler.proofs.Names.{◌≡◌, ℕ, zero, suc, refl, ◌+◌, ◌-◌, ◌*◌, ◌<◌, ◌%◌, ap, sym, subst, ◌∙◌, Bool, false, List, [], ◌∷◌, ◌++◌, append_assoc, length, get_or, take, drop, min, replicate, arith, w64, to_le_bytes, div_ceil, length-take, length-drop, length-append, length-map, take-append-drop, get_or-take, get_or-drop, drop-drop, take_at, drop_at, take_min, drop_min, take-map, drop-map, flat_map_more, number, b8_bytes, next_group, word_bit, lane_bits, byte_at, row_bytes}
use Rattle.std.proofs.lemmas.List.{append-nil}
use Rattle.stab_sampler.proofs.WordLemmas.{word_bit-zero}
use Rattle.stab_sampler.proofs.DigitLemmas.{byte-of_bits}

-- a lane's bit of a word, or of none
pub lane-bit : (l k : ℕ) (words : List ℕ) → word_bit (get_or words k 0) l ≡ get_or (lane_bits word_bit l words) k false
lane-bit l k [] = word_bit-zero l
lane-bit l zero (w ∷ words) = refl
lane-bit l (suc k) (w ∷ words) = lane-bit l k words

pub all-same : (m k d : ℕ) → get_or (replicate m d) k d ≡ d
all-same zero k d = refl
all-same (suc m) zero d = refl
all-same (suc m) (suc k) d = all-same m k d

-- zeros after words change no bit
pub padded : (words rest : List ℕ) (n k : ℕ) → ((j : ℕ) → get_or rest j 0 ≡ 0) → get_or (words ++ drop n rest) k 0 ≡ get_or words k 0
padded [] rest n k none = get_or-drop n rest k 0 ∙ none (n + k)
padded (w ∷ words) rest n zero none = refl
padded (w ∷ words) rest n (suc k) none = padded words rest n k none

-- the first of these bytes, as many as the bits take, are the bits in b8
abbrev pub BeginWith : List ℕ → List Bool → Type 0
BeginWith bytes bits = take (div_ceil (length bits) 8) bytes ≡ b8_bytes bits

groups : (n : ℕ) → 0 < n → div_ceil n 8 ≡ suc (div_ceil (n - 8) 8)
groups n some = grind (arith, some)

one-byte : (byte : ℕ) (bytes : List ℕ) (bits : List Bool) → byte ≡ number (take 8 bits) → BeginWith bytes (drop 8 bits) → BeginWith (byte ∷ bytes) bits
one-byte byte bytes [] is begin = refl
one-byte byte bytes (b ∷ bits) is begin =
    let all = b ∷ bits in
    ap (λ n. take n (byte ∷ bytes)) (groups (length all) (omega arith))
    ∙ ap (λ n. byte ∷ take (div_ceil n 8) bytes) (sym (length-drop 8 all))
    ∙ ap (λ r. byte ∷ r) begin
    ∙ sym (next_group all (take 8 all) (drop 8 all) 8 byte refl (sym (take-append-drop 8 all)) (length-take 8 all) (omega arith) is)

-- a byte of a word whose bits are these
next-byte : (w j : ℕ) (bytes : List ℕ) (bits : List Bool) → j < 8 → ((k : ℕ) → k < 64 → word_bit w k ≡ get_or bits k false)
    → BeginWith bytes (drop (8 * j + 8) bits) → BeginWith (byte_at w j ∷ bytes) (drop (8 * j) bits)
next-byte w j bytes bits less are begin =
    one-byte (byte_at w j) bytes (drop (8 * j) bits)
    (byte-of_bits w j (take 8 (drop (8 * j) bits)) (omega (arith, length-take 8 (drop (8 * j) bits)))
    (λ k lt. are (8 * j + k) (omega (arith, less, lt)) ∙ sym (get_or-drop (8 * j) bits k false) ∙ sym (get_or-take 8 (drop (8 * j) bits) k false lt)))
    (subst (λ r. BeginWith bytes r) (sym (drop-drop 8 (8 * j) bits)) begin)

lowest : (w : ℕ) → byte_at w 0 ≡ w % 256
lowest w = omega arith

first-byte : (w : ℕ) (bytes : List ℕ) (bits : List Bool) → ((k : ℕ) → k < 64 → word_bit w k ≡ get_or bits k false) → BeginWith bytes (drop 8 bits) → BeginWith (w % 256 ∷ bytes) bits
first-byte w bytes bits are begin = subst (λ b. BeginWith (b ∷ bytes) bits) (lowest w) (next-byte w 0 bytes bits (omega arith) are begin)

-- the eight bytes of a word whose bits are these
pub word-bytes : (w : ℕ) (bytes : List ℕ) (bits : List Bool) → ((k : ℕ) → k < 64 → word_bit w k ≡ get_or bits k false)
    → BeginWith bytes (drop 64 bits) → BeginWith (to_le_bytes w64 w ++ bytes) bits
word-bytes w bytes bits are begin =
    first-byte w _ bits are (next-byte w 1 _ bits (omega arith) are (next-byte w 2 _ bits (omega arith) are (next-byte w 3 _ bits (omega arith) are
    (next-byte w 4 _ bits (omega arith) are (next-byte w 5 _ bits (omega arith) are (next-byte w 6 _ bits (omega arith) are (next-byte w 7 bytes bits (omega arith) are begin)))))))

-- a block more
pub more-blocks : (lane : ℕ) (blocks : List (List ℕ)) (block : List ℕ) → row_bytes lane (blocks ++ block ∷ []) ≡ row_bytes lane blocks ++ to_le_bytes w64 (get_or block lane 0)
more-blocks lane blocks block = sym (flat_map_more (λ b. to_le_bytes w64 (get_or b lane 0)) [] blocks block)

-- a lane has eight bytes of each block
pub length-row : (lane : ℕ) (blocks : List (List ℕ)) → length (row_bytes lane blocks) ≡ 8 * length blocks
length-row lane [] = refl
length-row lane (block ∷ blocks) =
    length-append (to_le_bytes w64 (get_or block lane 0)) (row_bytes lane blocks) ∙ ap (λ n. 8 + n) (length-row lane blocks) ∙ omega arith

-- a block more, of 64 words or of those that are left
pub next-block : (lane : ℕ) (rest group following : List ℕ) (size : ℕ) (block : List ℕ) (blocks new : List (List ℕ)) (total : List Bool)
    → size ≡ 64 → rest ≡ group ++ following → length group ≡ min size (length rest)
    → ((k : ℕ) → k < 64 → word_bit (get_or block lane 0) k ≡ get_or (lane_bits word_bit lane group) k false)
    → ((bytes : List ℕ) → BeginWith bytes (lane_bits word_bit lane rest) → BeginWith (row_bytes lane blocks ++ bytes) total)
    → new ≡ blocks ++ block ∷ [] → (bytes : List ℕ) → BeginWith bytes (lane_bits word_bit lane following) → BeginWith (row_bytes lane new ++ bytes) total
next-block lane rest group following size block blocks new total whole cut short are so_far is bytes begin =
    let bit : ℕ → Bool = λ w. word_bit w lane in
    let word = get_or block lane 0 in
    let count : length group ≡ min 64 (length rest) = short ∙ ap (λ n. min n (length rest)) whole in
    let front : take 64 rest ≡ group = sym (take_min 64 rest) ∙ ap (λ r. take (min 64 (length rest)) r) cut ∙ take_at group following (min 64 (length rest)) count in
    let back : drop 64 rest ≡ following = sym (drop_min 64 rest) ∙ ap (λ r. drop (min 64 (length rest)) r) cut ∙ drop_at group following (min 64 (length rest)) count in
    let left : lane_bits word_bit lane following ≡ drop 64 (lane_bits word_bit lane rest) = ap (lane_bits word_bit lane) (sym back) ∙ sym (drop-map bit 64 rest) in
    let joined : row_bytes lane blocks ++ (to_le_bytes w64 word ++ bytes) ≡ row_bytes lane new ++ bytes =
    sym (append_assoc (row_bytes lane blocks) (to_le_bytes w64 word) bytes) ∙ ap (λ r. r ++ bytes) (sym (more-blocks lane blocks block)) ∙ ap (λ b. row_bytes lane b ++ bytes) (sym is) in
    subst (λ r. BeginWith r total) joined
    (so_far (to_le_bytes w64 word ++ bytes)
    (word-bytes word bytes (lane_bits word_bit lane rest)
    (λ k lt.
    are k lt ∙ ap (λ g. get_or (lane_bits word_bit lane g) k false) (sym front) ∙ ap (λ r. get_or r k false) (sym (take-map bit 64 rest)) ∙ get_or-take 64 (lane_bits word_bit lane rest) k false lt)
    (subst (λ r. BeginWith bytes r) left begin)))

-- the row of a lane when no word is left
pub whole-row : (lane : ℕ) (words rest : List ℕ) (blocks : List (List ℕ)) → rest ≡ []
    → ((bytes : List ℕ) → BeginWith bytes (lane_bits word_bit lane rest) → BeginWith (row_bytes lane blocks ++ bytes) (lane_bits word_bit lane words))
    → take (div_ceil (length words) 8) (row_bytes lane blocks) ≡ b8_bytes (lane_bits word_bit lane words)
whole-row lane words rest blocks none so_far =
    ap (λ n. take (div_ceil n 8) (row_bytes lane blocks)) (sym (length-map words (λ w. word_bit w lane)))
    ∙ subst (λ r. BeginWith r (lane_bits word_bit lane words)) (append-nil (row_bytes lane blocks)) (so_far [] (subst (λ r. BeginWith [] (lane_bits word_bit lane r)) (sym none) refl))

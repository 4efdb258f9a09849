-- Laws of deciders: the lanes of a word, and the lists of the coins that flip each bit.
use Rattle.stab_commands.proofs.Names.{◌≡◌, refl, sym, ap, ap₂, subst, ◌∙◌, ℕ, zero, suc, ◌+◌, ◌-◌, ◌*◌, ◌/◌, ◌%◌, ◌<◌, ◌≤◌, Bool, false, List, [], ◌∷◌, ◌++◌, length, get_or, set, if◌then◌else◌, ◌⊎◌, inl, inr, arith, Vec, cases_eq, get_or-map, numbers_where, Items, qubits_of, word_bit, lane_bits, word_bit-zero, rows_listed, listed-set_here, listed-set_other, flips_of, zero_coins, LaneHasBits, deciding_coins, Shots, checked_bits, coin_at, decides, ones_at, ones_of}
use Rattle.stab_commands.proofs.CoinRowLaws.{lanes_checked}
use Rattle.stab_commands.proofs.ReasonLaws.{where-next, where-join}
use Rattle.stab_regions.proofs.AscentLemmas.{where-same}

module _ {W : Type 0} (at : W → ℕ → Bool) (word : W) (first : ℕ) where
  -- no lanes yet
  pub ones-none : ones_of at word first first ≡ []
  ones-none = ap (numbers_where (λ k. at word (k - first)) first) {x = first - first} {y = 0} (omega arith)

  -- one lane more
  pub ones-next : (position : ℕ) (b : Bool) → first ≤ position → at word (position - first) ≡ b → ones_of at word first (position + 1) ≡ ones_of at word first position ++ (if b then position ∷ [] else [])
  ones-next position b above is =
      let f : ℕ → Bool = λ k. at word (k - first) in
      let same : first + (position - first) ≡ position = omega (arith, above) in
      ap (numbers_where f first) {x = position + 1 - first} {y = suc (position - first)} (omega (arith, above))
      ∙ where-next f first (position - first)
      ∙ ap (λ k. numbers_where f first (position - first) ++ (if f k then k ∷ [] else [])) same
      ∙ ap (λ c. numbers_where f first (position - first) ++ (if c then position ∷ [] else [])) is

-- the lanes of a part that is 0
pub ones-blank : (first end : ℕ) → ones_of word_bit 0 first end ≡ []
ones-blank first end = none first (end - first)
  where
    none : (i k : ℕ) → numbers_where (λ j. word_bit 0 (j - first)) i k ≡ []
    none i zero = refl
    none i (suc k) =
        ap (λ b. if b then i ∷ numbers_where (λ j. word_bit 0 (j - first)) (i + 1) k else numbers_where (λ j. word_bit 0 (j - first)) (i + 1) k) (word_bit-zero (i - first)) ∙ none (i + 1) k

-- those of a part of 64 lanes come after those of the parts before it
pub ones-part : {W : Type 0} (at : W → ℕ → Bool) (word : W) (first part pushed some : ℕ) → pushed % 64 ≡ 0 → some ≤ 64
    → ((l : ℕ) → l < 64 → word_bit part l ≡ at word (64 * (pushed / 64) + l))
    → ones_of at word first (first + pushed) ++ ones_of word_bit part (first + pushed) (first + pushed + some) ≡ ones_of at word first (first + (pushed + some))
ones-part at word first part pushed some whole few is =
    let f : ℕ → Bool = λ k. at word (k - first) in
    let g : ℕ → Bool = λ k. word_bit part (k - (first + pushed)) in
    let before : ones_of at word first (first + pushed) ≡ numbers_where f first pushed = ap (numbers_where f first) {x = first + pushed - first} {y = pushed} (omega arith) in
    let here : ones_of word_bit part (first + pushed) (first + pushed + some) ≡ numbers_where f (first + pushed) some =
    ap (numbers_where g (first + pushed)) {x = first + pushed + some - (first + pushed)} {y = some} (omega arith)
    ∙ where-same g f (first + pushed) some
    (λ j above below.
    is (j - (first + pushed)) (omega (arith, above, below, few))
    ∙ ap (at word) {x = 64 * (pushed / 64) + (j - (first + pushed))} {y = j - first} (omega (arith, above, whole))) in
    ap₂ (λ a b. a ++ b) before here
    ∙ sym (where-join f first pushed some)
    ∙ ap (numbers_where f first) {x = pushed + some} {y = first + (pushed + some) - first} (omega arith)

-- the numbers from one number on come after those before it
pub numbers_more : (f : ℕ → Bool) (first end : ℕ) → first ≤ end → numbers_where f 0 first ++ numbers_where f first (end - first) ≡ numbers_where f 0 end
numbers_more f first end within =
    ap (λ k. numbers_where f 0 first ++ numbers_where f k (end - first)) {x = first} {y = 0 + first} (omega arith)
    ∙ sym (where-join f 0 first (end - first))
    ∙ ap (numbers_where f 0) {x = first + (end - first)} {y = end} (omega (arith, within))

-- the lanes of the word at a position
pub ones_here : {W : Type 0} (at : W → ℕ → Bool) (words : List W) (word : W) (i first end : ℕ) → i < length words → word ≡ get_or words i word → ones_of at word first end ≡ ones_at at words i first end
ones_here at words word i first end less is =
    where-same (λ k. at word (k - first)) (λ k. get_or (lane_bits at (k - first) words) i false) first (end - first)
    (λ j above below. ap (λ w. at w (j - first)) is ∙ sym (get_or-map (λ w. at w (j - first)) words i word false less))

-- they are the coins that decide its bit
pub batch_decides : {W : Type 0} (at : W → ℕ → Bool) (items : Items) (first end : ℕ) (words : List W) (i : ℕ)
    → ((l : ℕ) → l < end - first → lane_bits at l words ≡ checked_bits (flips_of (qubits_of items) items zero_coins (coin_at items (first + l))))
    → ones_at at words i first end ≡ numbers_where (decides items i) first (end - first)
batch_decides at items first end words i lanes =
    where-same (λ k. get_or (lane_bits at (k - first) words) i false) (decides items i) first (end - first)
    (λ j above below.
    ap (λ bits. get_or bits i false) (lanes (j - first) (omega (arith, above, below)))
    ∙ ap (decides items i) {x = first + (j - first)} {y = j} (omega (arith, above)))

-- the lanes of all words that are no records
pub lanes_are : {W : Type 0} (at : W → ℕ → Bool) (lanes : ℕ) (items : Items) (first n : ℕ) (lists : Shots W) (words : List W) → n ≡ qubits_of items → words ≡ lists.detectors.items ++ lists.observables.items
    → ((l : ℕ) → l < lanes → first + l < length (deciding_coins n items) → LaneHasBits at l (flips_of n items zero_coins (get_or (deciding_coins n items) (first + l) 0)) lists)
    → (l : ℕ) → l < lanes → first + l < length (deciding_coins (qubits_of items) items) → lane_bits at l words ≡ checked_bits (flips_of (qubits_of items) items zero_coins (coin_at items (first + l)))
lanes_are {W} at lanes items first n lists words e are flips l few within =
    let bits =
    (subst (λ k. (j : ℕ) → j < lanes → first + j < length (deciding_coins k items) → LaneHasBits at j (flips_of k items zero_coins (get_or (deciding_coins k items) (first + j) 0)) lists) e flips) l few within in
    ap (lane_bits at l) are ∙ lanes_checked at l lists.detectors.items lists.observables.items (flips_of (qubits_of items) items zero_coins (coin_at items (first + l))) bits.detectors bits.observables

-- one list more is written
pub lists-more : {W : Type 0} (at : W → ℕ → Bool) (words : List W) (first end position : ℕ) (old lists : List (Vec ℕ)) (new : Vec ℕ) → position < length lists
    → ((i : ℕ) → i < position → rows_listed lists i ≡ rows_listed old i ++ ones_at at words i first end) → new.items ≡ rows_listed old position ++ ones_at at words position first end
    → (i : ℕ) → i < position + 1 → rows_listed (set lists position new) i ≡ rows_listed old i ++ ones_at at words i first end
lists-more at words first end position old lists new within before here i less = by_position (cases_eq i position)
  where
    by_position : (i ≡ position) ⊎ (i ≡ position → ⊥) → rows_listed (set lists position new) i ≡ rows_listed old i ++ ones_at at words i first end
    by_position (inl same) =
        ap (rows_listed (set lists position new)) same ∙ listed-set_here lists position new within ∙ here ∙ ap (λ k. rows_listed old k ++ ones_at at words k first end) (sym same)
    by_position (inr other) = listed-set_other lists position i new other ∙ before i (omega (arith, less, other))

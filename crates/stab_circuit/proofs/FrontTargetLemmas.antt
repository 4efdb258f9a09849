-- Targets that are read off the front of several words.
use Rattle.stab_circuit.proofs.Names.{◌≡◌, ◌<◌, ◌≤◌, ℕ, ◌-◌, Bool, true, false, ◌&&◌, not, ◌==◌, nat_le, nat_lt, nat_eq, List, [], ◌∷◌, length, take, drop, ◌++◌, append_assoc, append-nil, length-drop, refl, sym, ap, ◌∙◌, arith, Ok, Err, if◌then◌else◌, codes, list_all, starts_with, position_or_len, prefix_len, pointwise, length-append, take-append-drop, nat_tests, BadTarget, QubitOutOfRange, most_qubits, most_lookback, is_spacing, is_digit, starts_with_byte, ends_with_byte, trimmed_front, words, is_number, is_some_word, value, ◌>>=◌, qubit_of, measure_target_of, lookback_of, is_lookback, lookback_digits, BeginsWithNumber, is_word_end, BeginsWithTarget}
use Rattle.stab_instructions.proofs.LackLemmas.{Lacks, lacks-append, digits_lack, position_front, lacks_position, take_front, drop_front, drop_none, ends_with_last}
use Rattle.stab_instructions.proofs.PieceLemmas.{one_word}
use Rattle.stab_circuit.proofs.NumberLemmas.{digit_solid}
use Rattle.stab_instructions.proofs.BoolLemmas.{both, chosen, passed, and_left, and_right}

below_is : (n m : ℕ) → n < m → nat_lt n m ≡ true
below_is n m h = grind (arith, nat_tests)

within_is : (n m : ℕ) → n ≤ m → nat_le n m ≡ true
within_is n m h = grind (arith, nat_tests)

-- a number below 1,024 is a qubit
pub number_qubit : (word : List ℕ) (n : ℕ) → is_number word ≡ true → value word ≡ n → n < most_qubits → qubit_of word ≡ Ok n
unfolding qubit_of
number_qubit word n number same small =
    passed (not (is_number word)) _ _ (ap not number)
    ∙ chosen (nat_lt (value word) most_qubits) _ _ (ap (λ v. nat_lt v most_qubits) same ∙ below_is n most_qubits small)
    ∙ ap Ok same

-- a number in front is a qubit in front
pub qubit_begins : (bs rest : List ℕ) (n : ℕ) → BeginsWithNumber bs n rest → n < most_qubits → BeginsWithTarget qubit_of bs n rest
qubit_begins bs rest n h small = (h.0, h.1, number_qubit h.0 n h.2 h.3 small)

digit_unmarked : (b : ℕ) → is_digit b ≡ true → (b == 33) ≡ false
digit_unmarked b h = grind (arith, nat_tests)

number_unmarked : (word : List ℕ) → is_number word ≡ true → starts_with_byte word 33 ≡ false
number_unmarked [] h = refl
number_unmarked (b ∷ bs) h = digit_unmarked b (and_left (is_digit b) (list_all is_digit bs) (and_right (is_some_word (b ∷ bs)) _ h))

qubit_number : (word : List ℕ) (n : ℕ) (b : Bool) → is_number word ≡ b → (if not b then Err BadTarget else if nat_lt (value word) most_qubits then Ok (value word) else Err QubitOutOfRange) ≡ Ok n → b ≡ true
qubit_number word n true e h = refl
qubit_number word n false e h = cc

pub qubit_is_number : (word : List ℕ) (n : ℕ) → qubit_of word ≡ Ok n → is_number word ≡ true
unfolding qubit_of
qubit_is_number word n h = qubit_number word n (is_number word) refl h

pub qubit_measured : (word : List ℕ) (n : ℕ) → qubit_of word ≡ Ok n → measure_target_of word ≡ Ok (record { qubit = n; inverted = false })
unfolding measure_target_of
qubit_measured word n h =
    passed (starts_with_byte word 33) _ _ (number_unmarked word (qubit_is_number word n h))
    ∙ ap (λ r. r >>= λ q. Ok (record { qubit = q; inverted = false })) h

-- a qubit in front is measured as it is
pub measure_target_begins : (bs rest : List ℕ) (n : ℕ) → BeginsWithTarget qubit_of bs n rest → BeginsWithTarget measure_target_of bs (record { qubit = n; inverted = false }) rest
measure_target_begins bs rest n h = (h.0, h.1, qubit_measured h.0 n h.2)

-- what begins with a needle is the needle and more
pub starts_same : (needle xs : List ℕ) → pointwise nat_eq needle (take (length needle) xs) ≡ true → xs ≡ needle ++ drop (length needle) xs
starts_same [] xs h = sym (drop_none xs)
starts_same (n ∷ needle) [] h = cc
starts_same (n ∷ needle) (x ∷ xs) h =
    let first : x ≡ n = equal n x (and_left (nat_eq n x) _ h) in
    ap (λ y. y ∷ xs) first ∙ ap (λ l. n ∷ l) (starts_same needle xs (and_right (nat_eq n x) _ h))
  where
    equal : (n x : ℕ) → nat_eq n x ≡ true → x ≡ n
    equal n x e = grind (arith, nat_tests)

starts_is : (front : List ℕ) → starts_with nat_eq front (codes "rec[-") ≡ true → front ≡ codes "rec[-" ++ drop 5 front
starts_is front h = starts_same (codes "rec[-") front h

some_long : (word : List ℕ) → is_some_word word ≡ true → 0 < length word
some_long [] h = cc
some_long (b ∷ bs) h = omega arith

word_end : (word rest : List ℕ) → Lacks is_spacing word → is_word_end rest ≡ true → position_or_len is_spacing (word ++ rest) ≡ length word
word_end word [] f e = ap (position_or_len is_spacing) (append-nil word) ∙ lacks_position is_spacing word f
word_end word (y ∷ ys) f e = position_front is_spacing word y ys f e

-- a word in front, and what follows it
pub word_begins : (bs front word rest : List ℕ) → front ≡ trimmed_front bs → front ≡ word ++ rest → Lacks is_spacing word → is_some_word word ≡ true → is_word_end rest ≡ true → words bs ≡ word ∷ words rest
word_begins bs front word rest e same lacks some end =
    let position : length word ≡ position_or_len is_spacing front = sym (ap (position_or_len is_spacing) same ∙ word_end word rest lacks end) in
    one_word bs front (length word) e (omega (arith, ap length same, length-append word rest, some_long word some)) position
    ∙ ap (λ l. l ∷ words (drop (length word) front)) (ap (take (length word)) same ∙ take_front word rest)
    ∙ ap (λ l. word ∷ words l) (ap (drop (length word)) same ∙ drop_front word rest)

pub word_shorter : (bs front word rest : List ℕ) → front ≡ trimmed_front bs → front ≡ word ++ rest → is_some_word word ≡ true → length rest < length bs
word_shorter bs front word rest e same some =
    omega (arith, ap length same, length-append word rest, some_long word some, ap length e, length-drop (prefix_len is_spacing bs) bs)

-- what rec[-k] is, whatever its digits
abbrev pub record_word : List ℕ → List ℕ
record_word ds = codes "rec[-" ++ (ds ++ codes "]")

some_more : (b : ℕ) (bs : List ℕ) → is_some_word (b ∷ bs) ≡ true
some_more b bs = grind arith

pub record_some : (ds : List ℕ) → is_some_word (record_word ds) ≡ true
record_some ds = some_more 114 (codes "ec[-" ++ (ds ++ codes "]"))

record_digits : (ds : List ℕ) → lookback_digits (record_word ds) ≡ ds
record_digits ds =
    let six : length (record_word ds) - 6 ≡ length ds = omega (arith, length-append ds (codes "]")) in
    ap (λ n. take n (ds ++ codes "]")) six ∙ take_front ds (codes "]")

record_written : (ds : List ℕ) → is_number ds ≡ true → is_lookback (record_word ds) ≡ true
record_written ds h =
    let w : List ℕ = record_word ds in
    let ends : ends_with_byte w 93 ≡ true = ends_with_last 93 (codes "rec[-" ++ ds) refl in
    both (starts_with nat_eq w (codes "rec[-") && ends_with_byte w 93) (is_number (lookback_digits w)) (both (starts_with nat_eq w (codes "rec[-")) (ends_with_byte w 93) refl ends) (ap is_number (record_digits ds) ∙ h)

pub record_read : (ds : List ℕ) (k : ℕ) → is_number ds ≡ true → value ds ≡ k → 0 < k → k ≤ most_lookback → lookback_of (record_word ds) ≡ Ok k
unfolding lookback_of
record_read ds k h v low high =
    let w : List ℕ = record_word ds in
    let same : value (lookback_digits w) ≡ k = ap value (record_digits ds) ∙ v in
    chosen (is_lookback w && nat_lt 0 (value (lookback_digits w)) && nat_le (value (lookback_digits w)) most_lookback) _ _
    (both (is_lookback w && nat_lt 0 (value (lookback_digits w))) _ (both (is_lookback w) _ (record_written ds h) (ap (nat_lt 0) same ∙ below_is 0 k low)) (ap (λ n. nat_le n most_lookback) same ∙ within_is k most_lookback high))
    ∙ ap Ok same

digits_solid : (ds : List ℕ) → list_all is_digit ds ≡ true → Lacks is_spacing ds
digits_solid ds h = digits_lack is_spacing ds digit_solid h

pub record_solid : (ds : List ℕ) → list_all is_digit ds ≡ true → Lacks is_spacing (record_word ds)
record_solid ds h =
    lacks-append is_spacing (codes "rec[-") (ds ++ codes "]") (refl, (refl, (refl, (refl, (refl, tt)))))
    (lacks-append is_spacing ds (codes "]") (digits_solid ds h) (refl, tt))

pub some_value : (ds : List ℕ) → 0 < value ds → is_some_word ds ≡ true
some_value [] h = absurd (omega arith)
some_value (d ∷ ds) h = grind arith

-- what a byte is first in
pub closing_is : (bs : List ℕ) (b : ℕ) → starts_with_byte bs b ≡ true → bs ≡ b ∷ drop 1 bs
closing_is [] b h = cc
closing_is (x ∷ xs) b h = ap (λ y. y ∷ xs) (byte_is x b h) ∙ ap (λ l. b ∷ l) (sym (drop_none xs))
  where
    byte_is : (x b : ℕ) → (x == b) ≡ true → x ≡ b
    byte_is x b h = grind arith

-- the parts of what is in front, if it is written as a record is
pub record_parts : (front following closing rest : List ℕ) (n : ℕ) → starts_with nat_eq front (codes "rec[-") ≡ true → following ≡ drop 5 front → closing ≡ drop n following
    → starts_with_byte closing 93 ≡ true → rest ≡ drop 1 closing → front ≡ record_word (take n following) ++ rest
record_parts front following closing rest n s b c e r =
    starts_is front s
    ∙ ap (λ l. codes "rec[-" ++ l) (sym b ∙ sym (take-append-drop n following) ∙ ap (λ l. take n following ++ l) (sym c ∙ closing_is closing 93 e ∙ ap (λ l. 93 ∷ l) (sym r)))
    ∙ ap (λ l. codes "rec[-" ++ l) (sym (append_assoc (take n following) (codes "]") rest))

-- a record in front
pub record_begins : (bs front following rest : List ℕ) (n k : ℕ) → front ≡ trimmed_front bs → front ≡ record_word (take n following) ++ rest → list_all is_digit (take n following) ≡ true
    → k ≡ value (take n following) → 0 < k → k ≤ most_lookback → is_word_end rest ≡ true → BeginsWithTarget lookback_of bs k rest
record_begins bs front following rest n k e parts digits same low high end =
    let v : value (take n following) ≡ k = sym same in (
      record_word (take n following),
      word_begins bs front (record_word (take n following)) rest e parts (record_solid (take n following) digits) (record_some (take n following)) end,
      record_read (take n following) k (both (is_some_word (take n following)) _ (some_value (take n following) (omega (arith, v, low))) digits) v low high,
    )

-- what follows a record in front is shorter
pub record_shorter : (bs front following rest : List ℕ) (n : ℕ) → front ≡ trimmed_front bs → front ≡ record_word (take n following) ++ rest → length rest < length bs
record_shorter bs front following rest n e parts = word_shorter bs front (record_word (take n following)) rest e parts (record_some (take n following))

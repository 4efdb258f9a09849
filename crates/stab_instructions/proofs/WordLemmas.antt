-- Laws of words and numbers.
use Rattle.stab_instructions.proofs.Names.{◌≡◌, ◌≤◌, ◌<◌, ◌^◌, ℕ, ◌+◌, ◌*◌, ◌-◌, true, List, [], ◌∷◌, ◌++◌, length, take, arith, refl, ap, ◌∙◌, get_or, add-one, length-take, rules, take_more, list_all, IsNumeralModel, numerals_by_fold, IsDigitsTest, digits_value_short, is_digit, value_from, value, is_number, is_some_word}
use Rattle.std.proofs.Math.ListN.{drop}
use Rattle.std.proofs.Math.Seq.{drop-cons}
use Rattle.stab_instructions.proofs.BoolLemmas.{and_left, and_right, both}

-- further digits don't make it smaller
pub le_value_from : (n : ℕ) (ds : List ℕ) → n ≤ value_from n ds
le_value_from n [] = omega arith
le_value_from n (d ∷ ds) = let rest = le_value_from (n * 10 + (d - 48)) ds in omega (arith, rest)

-- one digit more
pub value_from_drop : (n i : ℕ) (ds : List ℕ) → i < length ds → value_from n (drop i ds) ≡ value_from (n * 10 + (get_or ds i 0 - 48)) (drop (i + 1) ds)
value_from_drop n i ds h = rw (add-one, drop-cons ds i 0) refl

is_digits_test : IsDigitsTest (λ ds. list_all is_digit ds ≡ true)
is_digits_test = search rules

-- the value of digits is std's
pub decimal_model : IsNumeralModel (λ ds. list_all is_digit ds ≡ true) value
decimal_model = numerals_by_fold _ is_digits_test value_from (search rules)

digits_of : (word : List ℕ) → is_number word ≡ true → list_all is_digit word ≡ true
digits_of word h = and_right (is_some_word word) (list_all is_digit word) h

-- a number of at most 18 digits
pub eighteen_digits : (word : List ℕ) → is_number word ≡ true → length word ≤ 18 → value word < 10 ^ 18
eighteen_digits word h few = digits_value_short decimal_model word 18 (digits_of word h) few

-- the digits before a position and the one there
pub value-snoc : (n : ℕ) (ds : List ℕ) (d : ℕ) → value_from n (ds ++ d ∷ []) ≡ value_from n ds * 10 + (d - 48)
value-snoc n [] d = refl
value-snoc n (x ∷ ds) d = value-snoc (n * 10 + (x - 48)) ds d

all-snoc : (ds : List ℕ) (d : ℕ) → list_all is_digit ds ≡ true → is_digit d ≡ true → list_all is_digit (ds ++ d ∷ []) ≡ true
all-snoc [] d h k = both (is_digit d) true k refl
all-snoc (x ∷ ds) d h k = both (is_digit x) (list_all is_digit (ds ++ d ∷ [])) (and_left (is_digit x) (list_all is_digit ds) h) (all-snoc ds d (and_right (is_digit x) (list_all is_digit ds) h) k)

-- one digit more stays digits
pub digits_more : (bs : List ℕ) (n : ℕ) → n < length bs → list_all is_digit (take n bs) ≡ true → is_digit (get_or bs n 0) ≡ true → list_all is_digit (take (n + 1) bs) ≡ true
digits_more bs n lt h k = ap (list_all is_digit) (take_more bs n 0 lt) ∙ all-snoc (take n bs) (get_or bs n 0) h k

-- one digit more in a number
pub value_more : (bs : List ℕ) (n : ℕ) → n < length bs → value (take (n + 1) bs) ≡ value (take n bs) * 10 + (get_or bs n 0 - 48)
value_more bs n lt = ap value (take_more bs n 0 lt) ∙ value-snoc 0 (take n bs) (get_or bs n 0)

-- a number of few digits in front
pub few_digits : (bs : List ℕ) (n : ℕ) → list_all is_digit (take n bs) ≡ true → n ≤ 18 → value (take n bs) < 1000000000000000000
few_digits bs n h few = digits_value_short decimal_model (take n bs) 18 h (omega (arith, length-take n bs, few))

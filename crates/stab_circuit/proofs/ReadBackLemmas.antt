-- Printed targets and arguments are read again as what they were printed of.
use Rattle.stab_circuit.proofs.Names.{◌≡◌, ◌<◌, ◌≤◌, ◌^◌, refl, ap, sym, ◌∙◌, subst, ℕ, ◌-◌, ◌==◌, ◌&&◌, ◌||◌, nat_le, nat_lt, nat_eq, List, [], ◌∷◌, ◌++◌, Bool, true, false, not, length, take, filter, map, append_assoc, append-nil, arith, codes, if◌then◌else◌, Some, Result, Ok, slice_split, list_all, starts_with, decimal, length-append, slice_split-cons_yes, digits_decimal, digits_value-decimal, decimal_nonempty, length-decimal-le, nat_tests, Refusal, most_qubits, most_observables, most_lookback, MeasureTarget, ◌>>=◌, each, is_byte, is_digit, is_spacing, trimmed, starts_with_byte, ends_with_byte, words, is_some_word, is_blank, arguments_of, is_number, value, IsLookback, pair_qubits, qubit_of, measure_target_of, lookback_of, lookback_digits, is_lookback, count_of, pairs_of, is_coordinate_byte, coordinate_of, observable_of, each_after, spaced, pair_text, mark_text, target_text, lookback_text}
use Rattle.stab_instructions.proofs.BoolLemmas.{chosen, passed, both, and_left, and_right}
use Rattle.stab_instructions.proofs.WordLemmas.{decimal_model}
use Rattle.stab_instructions.proofs.TargetLemmas.{different}
use Rattle.stab_instructions.proofs.LackLemmas.{Each, Lacks, each_weaker, lacks-append, split_lacking, split_last, digits_lack, ends_with_last, take_front, starts_lacking}
use Rattle.stab_circuit.proofs.NeatLemmas.{IsSolid, solid_word, trimmed_again}
use Rattle.stab_instructions.proofs.SureLemmas.{IsQubit, IsMeasured, IsCount, IsPair, IsCoordinate, IsObservable}

-- a decimal number has digits, and is read as itself
pub decimal_digits : (n : ℕ) → n < 2 ^ 64 → list_all is_digit (decimal n) ≡ true
decimal_digits n wide = digits_decimal decimal_model n wide

pub decimal_value : (n : ℕ) → n < 2 ^ 64 → value (decimal n) ≡ n
decimal_value n wide = digits_value-decimal decimal_model n wide

pub some_of : (w : List ℕ) → 0 < length w → is_some_word w ≡ true
some_of [] h = absurd (omega arith)
some_of (b ∷ bs) h = grind arith

pub decimal_some : (n : ℕ) → n < 2 ^ 64 → is_some_word (decimal n) ≡ true
decimal_some n wide = some_of (decimal n) (decimal_nonempty n wide)

pub decimal_number : (n : ℕ) → n < 2 ^ 64 → is_number (decimal n) ≡ true
decimal_number n wide = both (is_some_word (decimal n)) (list_all is_digit (decimal n)) (decimal_some n wide) (decimal_digits n wide)

lt_true : (a b : ℕ) → a < b → nat_lt a b ≡ true
lt_true a b h = grind (arith, nat_tests)

le_true : (a b : ℕ) → a ≤ b → nat_le a b ≡ true
le_true a b h = grind (arith, nat_tests)

pub qubit_again : (q : ℕ) → IsQubit q → qubit_of (decimal q) ≡ Ok q
unfolding qubit_of
qubit_again q small =
    let wide : q < 2 ^ 64 = omega (arith, small) in
    passed (not (is_number (decimal q))) _ _ (ap not (decimal_number q wide))
    ∙ chosen (nat_lt (value (decimal q)) most_qubits) _ _ (ap (λ v. nat_lt v most_qubits) (decimal_value q wide) ∙ lt_true q most_qubits small)
    ∙ ap Ok (decimal_value q wide)

pub digit_no : (b : ℕ) → b < 48 → (d : ℕ) → is_digit d ≡ true → (d == b) ≡ false
digit_no b h d e = grind (arith, nat_tests)

plain_start : (ds : List ℕ) → list_all is_digit ds ≡ true → starts_with_byte ds 33 ≡ false
plain_start ds h = starts_lacking 33 ds (digits_lack (is_byte 33) ds (digit_no 33 (omega arith)) h)

measure_case : (q : ℕ) (b : Bool) → IsQubit q → measure_target_of (mark_text b ++ decimal q) ≡ Ok (record { qubit = q; inverted = b })
unfolding measure_target_of
measure_case q true small = ap (λ r. r >>= λ x. Ok (record { qubit = x; inverted = true })) (qubit_again q small)
measure_case q false small =
    passed (starts_with_byte (decimal q) 33) _ _ (plain_start (decimal q) (decimal_digits q (omega (arith, small))))
    ∙ ap (λ r. r >>= λ x. Ok (record { qubit = x; inverted = false })) (qubit_again q small)

pub measure_again : (t : MeasureTarget) → IsMeasured t → measure_target_of (target_text t) ≡ Ok t
measure_again t small = measure_case t.qubit t.inverted small

digits_again : (k : ℕ) → lookback_digits (lookback_text k) ≡ decimal k
digits_again k =
    let six : length (lookback_text k) - 6 ≡ length (decimal k) = omega (arith, length-append (decimal k) (codes "]")) in
    ap (λ n. take n (decimal k ++ codes "]")) six ∙ take_front (decimal k) (codes "]")

-- a printed record is written as one
pub lookback_written : (k : ℕ) → k < 2 ^ 64 → is_lookback (lookback_text k) ≡ true
lookback_written k wide =
    let w : List ℕ = lookback_text k in
    let ends : ends_with_byte w 93 ≡ true = ends_with_last 93 (codes "rec[-" ++ decimal k) refl in
    let number : is_number (lookback_digits w) ≡ true = ap is_number (digits_again k) ∙ decimal_number k wide in
    both (starts_with nat_eq w (codes "rec[-") && ends_with_byte w 93) (is_number (lookback_digits w)) (both (starts_with nat_eq w (codes "rec[-")) (ends_with_byte w 93) refl ends) number

pub lookback_again : (k : ℕ) → IsLookback k → lookback_of (lookback_text k) ≡ Ok k
unfolding lookback_of
lookback_again k p =
    let wide : k < 2 ^ 64 = omega (arith, p.1) in
    let w : List ℕ = lookback_text k in
    let v : value (lookback_digits w) ≡ k = ap value (digits_again k) ∙ decimal_value k wide in
    let written : is_lookback w ≡ true = lookback_written k wide in
    let low : nat_lt 0 (value (lookback_digits w)) ≡ true = ap (nat_lt 0) v ∙ lt_true 0 k p.0 in
    let high : nat_le (value (lookback_digits w)) most_lookback ≡ true = ap (λ n. nat_le n most_lookback) v ∙ le_true k most_lookback p.1 in
    chosen (is_lookback w && nat_lt 0 (value (lookback_digits w)) && nat_le (value (lookback_digits w)) most_lookback) _ _
    (both (is_lookback w && nat_lt 0 (value (lookback_digits w))) (nat_le (value (lookback_digits w)) most_lookback) (both (is_lookback w) (nat_lt 0 (value (lookback_digits w))) written low) high)
    ∙ ap Ok v

pub count_again : (n : ℕ) → IsCount n → count_of (decimal n) ≡ Ok (Some n)
unfolding count_of
count_again n p =
    let wide : n < 2 ^ 64 = omega (arith, p.1) in
    let few : length (decimal n) ≤ 18 = length-decimal-le 18 n (omega arith) p.1 wide in
    let v = decimal_value n wide in
    passed (not (is_number (decimal n))) _ _ (ap not (decimal_number n wide))
    ∙ passed (nat_lt 18 (length (decimal n)) || (value (decimal n) == 0)) _ _ (in_range (length (decimal n)) (value (decimal n)) few (subst (λ x. 0 < x) (sym v) p.0))
    ∙ ap (λ x. Ok (Some x)) v
  where
    in_range : (l x : ℕ) → l ≤ 18 → 0 < x → (nat_lt 18 l || (x == 0)) ≡ false
    in_range l x a b = grind (arith, nat_tests)

pub pairs_again : (ps : List (ℕ × ℕ)) → Each IsPair ps → pairs_of (pair_qubits ps) ≡ Ok ps
pairs_again [] p = refl
pairs_again (a ∷ ps) p = passed (a.0 == a.1) _ _ (different a.0 a.1 p.0.2) ∙ ap (λ r. r >>= λ more. Ok (a ∷ more)) (pairs_again ps p.1)

pub coordinate_again : (c : List ℕ) → IsCoordinate c → coordinate_of c ≡ Ok c
unfolding coordinate_of
coordinate_again c p = chosen (is_some_word c && list_all is_coordinate_byte c) _ _ (both (is_some_word c) (list_all is_coordinate_byte c) p.0 p.1)

pub observable_again : (j : ℕ) → IsObservable j → observable_of (decimal j) ≡ Ok j
unfolding observable_of
observable_again j small =
    let wide : j < 2 ^ 64 = omega (arith, small) in
    chosen (nat_lt (value (decimal j)) most_observables) _ _ (ap (λ v. nat_lt v most_observables) (decimal_value j wide) ∙ lt_true j most_observables small) ∙ ap Ok (decimal_value j wide)

-- what each is read as
pub each_again : {A X : Type 0} (f : A → Result X Refusal) (text : X → A) (P : X → Type 0) → ((x : X) → P x → f (text x) ≡ Ok x) → (xs : List X) → Each P xs → each f (map text xs) ≡ Ok xs
each_again f text P h [] p = refl
each_again f text P h (x ∷ xs) p =
    ap (λ r. r >>= λ first. each f (map text xs) >>= λ rest. Ok (first ∷ rest)) (h x p.0) ∙ ap (λ r. r >>= λ rest. Ok (x ∷ rest)) (each_again f text P h xs p.1)

-- a text with bytes, and no spacing
abbrev pub IsWord : List ℕ → Type 0
IsWord w = Lacks is_spacing w × (is_some_word w ≡ true)

-- each of them has such a text
abbrev pub AreWords : {X : Type 0} → (X → List ℕ) → List X → Type 0
AreWords text xs = Each (λ x. IsWord (text x)) xs

pieces_again : {X : Type 0} (text : X → List ℕ) (x : X) (xs : List X) → AreWords text (x ∷ xs) → slice_split is_spacing (text x ++ spaced text xs) ≡ text x ∷ map text xs
pieces_again text x [] w = ap (slice_split is_spacing) (append-nil (text x)) ∙ split_last is_spacing (text x) w.0.0
pieces_again text x (y ∷ ys) w = split_lacking is_spacing (text x) 32 (text y ++ spaced text ys) w.0.0 refl ∙ ap (λ l. text x ∷ l) (pieces_again text y ys w.1)

all_retained : {X : Type 0} (text : X → List ℕ) (xs : List X) → AreWords text xs → filter is_some_word (map text xs) ≡ map text xs
all_retained text [] w = refl
all_retained text (x ∷ xs) w = ap (λ b. if b then text x ∷ filter is_some_word (map text xs) else filter is_some_word (map text xs)) w.0.1 ∙ ap (λ l. text x ∷ l) (all_retained text xs w.1)

-- the words of printed targets
pub words_again : {X : Type 0} (text : X → List ℕ) (xs : List X) → AreWords text xs → words (spaced text xs) ≡ map text xs
words_again text [] w = refl
words_again text (x ∷ xs) w =
    ap (filter is_some_word) (slice_split-cons_yes is_spacing 32 (text x ++ spaced text xs) refl ∙ ap (λ l. [] ∷ l) (pieces_again text x xs w)) ∙ all_retained text (x ∷ xs) w

pub same_map : (xs : List (List ℕ)) → map (λ x. x) xs ≡ xs
same_map [] = refl
same_map (x ∷ xs) = ap (λ l. x ∷ l) (same_map xs)

-- what is printed is words
pub spacing_no : (d : ℕ) → is_digit d ≡ true → is_spacing d ≡ false
spacing_no d e = grind (arith, nat_tests)

pub decimal_word : (n : ℕ) → n < 2 ^ 64 → IsWord (decimal n)
decimal_word n wide = (digits_lack is_spacing (decimal n) spacing_no (decimal_digits n wide), decimal_some n wide)

marked_word : (b : Bool) (w : List ℕ) → IsWord w → IsWord (mark_text b ++ w)
marked_word true w p = ((refl, p.0), some_of (mark_text true ++ w) (omega arith))
marked_word false w p = p

pub target_word : (t : MeasureTarget) → IsMeasured t → IsWord (target_text t)
target_word t small = marked_word t.inverted (decimal t.qubit) (decimal_word t.qubit (omega (arith, small)))

pub lookback_word : (k : ℕ) → IsLookback k → IsWord (lookback_text k)
lookback_word k p = (
  lacks-append is_spacing (codes "rec[-") (decimal k ++ codes "]") (refl, (refl, (refl, (refl, (refl, tt)))))
      (lacks-append is_spacing (decimal k) (codes "]") (decimal_word k (omega (arith, p.1))).0 (refl, tt)),
  some_of (lookback_text k) (omega arith),
)

pub qubits_words : (qs : List ℕ) → Each IsQubit qs → AreWords decimal qs
qubits_words qs p = each_weaker IsQubit (λ q. IsWord (decimal q)) qs (λ q small. decimal_word q (omega (arith, small))) p

-- pairs are printed as their qubits
pub pairs_spaced : (ps : List (ℕ × ℕ)) → spaced pair_text ps ≡ spaced decimal (pair_qubits ps)
pairs_spaced [] = refl
pairs_spaced (p ∷ ps) =
    ap (λ l. codes " " ++ ((decimal p.0 ++ (codes " " ++ decimal p.1)) ++ l)) (pairs_spaced ps)
    ∙ ap (λ l. codes " " ++ l) (append_assoc (decimal p.0) (codes " " ++ decimal p.1) (spaced decimal (pair_qubits ps)))

pub pair_qubits_good : (ps : List (ℕ × ℕ)) → Each IsPair ps → Each IsQubit (pair_qubits ps)
pair_qubits_good [] f = tt
pair_qubits_good (p ∷ ps) f = (f.0.0, (f.0.1, pair_qubits_good ps f.1))

-- the words of qubits are read as the qubits
pub qubits_again : (qs : List ℕ) → Each IsQubit qs → each qubit_of (words (spaced decimal qs)) ≡ Ok qs
qubits_again qs p = ap (each qubit_of) (words_again decimal qs (qubits_words qs p)) ∙ each_again qubit_of decimal IsQubit qubit_again qs p

pub targets_again : (ts : List MeasureTarget) → Each IsMeasured ts → each measure_target_of (words (spaced target_text ts)) ≡ Ok ts
targets_again ts p =
    ap (each measure_target_of) (words_again target_text ts (each_weaker IsMeasured (λ t. IsWord (target_text t)) ts target_word p))
    ∙ each_again measure_target_of target_text IsMeasured measure_again ts p

pub lookbacks_again : (ks : List ℕ) → Each IsLookback ks → each lookback_of (words (spaced lookback_text ks)) ≡ Ok ks
lookbacks_again ks p =
    ap (each lookback_of) (words_again lookback_text ks (each_weaker IsLookback (λ k. IsWord (lookback_text k)) ks lookback_word p))
    ∙ each_again lookback_of lookback_text IsLookback lookback_again ks p

-- coordinates hold no spacing and no comma
coordinate_spacing : (b : ℕ) → is_coordinate_byte b ≡ true → is_spacing b ≡ false
coordinate_spacing b e = grind (arith, nat_tests)

coordinate_no : (b : ℕ) (other : ℕ) → is_coordinate_byte b ≡ true → is_coordinate_byte other ≡ false → (b == other) ≡ false
coordinate_no b other e f = different_of (b == other) refl
  where
    different_of : (t : Bool) → (b == other) ≡ t → (b == other) ≡ false
    different_of false h = h
    different_of true h =
        let same : b ≡ other = grind (arith, nat_tests) in
        let q : true ≡ false = sym e ∙ ap is_coordinate_byte same ∙ f in cc

pub coordinate_lacks : (p : ℕ → Bool) (c : List ℕ) → ((b : ℕ) → is_coordinate_byte b ≡ true → p b ≡ false) → list_all is_coordinate_byte c ≡ true → Lacks p c
coordinate_lacks p [] f h = tt
coordinate_lacks p (b ∷ bs) f h = (f b (and_left (is_coordinate_byte b) (list_all is_coordinate_byte bs) h), coordinate_lacks p bs f (and_right (is_coordinate_byte b) (list_all is_coordinate_byte bs) h))

pub coordinate_lacks_of : (other : ℕ) (c : List ℕ) → is_coordinate_byte other ≡ false → IsCoordinate c → Lacks (is_byte other) c
coordinate_lacks_of other c f p = coordinate_lacks (is_byte other) c (λ b e. coordinate_no b other e f) p.1

pub coordinate_solid : (c : List ℕ) → IsCoordinate c → IsSolid c
coordinate_solid c p = solid_word c (coordinate_lacks is_spacing c coordinate_spacing p.1) p.0

-- further arguments
abbrev pub further : List (List ℕ) → List ℕ
further more = each_after (codes ", ") (λ b. b) more

pieces_of : (front : List ℕ) (more : List (List ℕ)) → Lacks (is_byte 44) front → Each IsCoordinate more → slice_split (is_byte 44) (front ++ further more) ≡ front ∷ map (λ c. 32 ∷ c) more
pieces_of front [] f p = ap (slice_split (is_byte 44)) (append-nil front) ∙ split_last (is_byte 44) front f
pieces_of front (c ∷ more) f p =
    split_lacking (is_byte 44) front 44 (32 ∷ (c ++ further more)) f refl
    ∙ ap (λ l. front ∷ l) (pieces_of (32 ∷ c) more (refl, coordinate_lacks_of 44 c refl p.0) p.1)

trimmed_more : (more : List (List ℕ)) → Each IsCoordinate more → map trimmed (map (λ c. 32 ∷ c) more) ≡ more
trimmed_more [] p = refl
trimmed_more (c ∷ more) p = ap (λ l. l ∷ map trimmed (map (λ d. 32 ∷ d) more)) (trimmed_again 1 c (coordinate_solid c p.0)) ∙ ap (λ l. c ∷ l) (trimmed_more more p.1)

blank_no : (c rest : List ℕ) → IsCoordinate c → is_blank (c ++ rest) ≡ false
blank_no [] rest p = let q : false ≡ true = p.0 in cc
blank_no (b ∷ bs) rest p = ap (λ t. t && list_all is_spacing (bs ++ rest)) (coordinate_spacing b (and_left (is_coordinate_byte b) (list_all is_coordinate_byte bs) p.1))

-- printed arguments are the arguments
pub arguments_again : (c : List ℕ) (more : List (List ℕ)) → Each IsCoordinate (c ∷ more) → arguments_of (c ++ further more) ≡ c ∷ more
arguments_again c more p =
    passed (is_blank (c ++ further more)) _ _ (blank_no c (further more) p.0)
    ∙ ap (map trimmed) (pieces_of c more (coordinate_lacks_of 44 c refl p.0) p.1)
    ∙ ap (λ l. l ∷ map trimmed (map (λ d. 32 ∷ d) more)) (trimmed_again 0 c (coordinate_solid c p.0))
    ∙ ap (λ l. c ∷ l) (trimmed_more more p.1)

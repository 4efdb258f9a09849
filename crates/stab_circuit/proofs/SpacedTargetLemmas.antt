-- Targets that are written as numbers, each after a space.
use Rattle.stab_circuit.proofs.Names.{Bor, Option, Some, None, MatchOption, ◌≡◌, ◌≢◌, ◌<◌, ◌≤◌, ℕ, true, false, ◌==◌, List, [], ◌∷◌, ◌++◌, length, take, drop, Result, Ok, Err, refl, sym, ap, ◌∙◌, append_assoc, append-nil, list_all, list_all-append, take-append-drop, Refusal, most_qubits, MeasureTarget, ControlledPair, ◌>>=◌, each, is_digit, starts_with_byte, is_number, is_some_word, value, qubit_of, measure_target_of, pairs_of, by_turns, pair_of, paired, controlled_of, follows, paired_words, IsSpacedQubit, IsSpacedPair, spaced_words, AreNumbers, AreSpacedTargets}
use Rattle.stab_instructions.specs.declared.control.Control.TheVariants as control
use Rattle.stab_instructions.specs.declared.control.ControlledPair.TheVariants as pair
use Rattle.stab_instructions.proofs.BoolLemmas.{both, passed}
use Rattle.stab_circuit.proofs.NumberLemmas.{some_taken}
use Rattle.stab_instructions.proofs.TargetLemmas.{different}
use Rattle.stab_circuit.proofs.FrontTargetLemmas.{number_qubit, qubit_measured, closing_is}
use Rattle.stab_circuit.proofs.ControlLemmas.{control_qubit, second_is}

-- a qubit in digits after a space
pub qubit_spaced : (bs digits : List ℕ) (n number q : ℕ) → starts_with_byte bs 32 ≡ true → digits ≡ drop 1 bs → 0 < n → n ≤ length digits → list_all is_digit (take n digits) ≡ true
    → number ≡ value (take n digits) → number < most_qubits → q ≡ number → IsSpacedQubit bs q (drop n digits)
qubit_spaced bs digits n number q s d some within all same small e =
    let word : is_number (take n digits) ≡ true = both (is_some_word (take n digits)) _ (some_taken digits n some within) all in (
      take n digits,
      closing_is bs 32 s ∙ ap (λ l. 32 ∷ l) (sym d ∙ sym (take-append-drop n digits)),
      word,
      number_qubit (take n digits) number word (sym same) small ∙ ap Ok (sym e),
    )

number_one : (w : List ℕ) → is_number w ≡ true → list_all is_number (w ∷ []) ≡ true
number_one w h = both (is_number w) true h refl

one_word_more : (bs ds rest : List ℕ) → bs ≡ 32 ∷ (ds ++ rest) → bs ≡ spaced_words (ds ∷ []) ++ rest
one_word_more bs ds rest e = e ∙ ap (λ l. 32 ∷ (l ++ rest)) (sym (append-nil ds))

-- a qubit is a target
qubit_target : (bs rest : List ℕ) (q : ℕ) → IsSpacedQubit bs q rest → AreSpacedTargets (each qubit_of) bs (q ∷ []) rest
qubit_target bs rest q h = (
  h.0 ∷ [],
  (one_word_more bs h.0 rest h.1, number_one h.0 h.2),
  λ more. ap (λ r. r >>= λ first. each qubit_of more >>= λ others. Ok (first ∷ others)) h.3,
)

-- the same of what a look at the bytes gives
pub qubit_seen : (bs : List ℕ) (r : Option (ℕ × Bor (List ℕ))) → MatchOption r (Unit {0}) (λ p. IsSpacedQubit bs p.0 p.1.now) → MatchOption r (Unit {0}) (λ p. AreSpacedTargets (each qubit_of) bs (p.0 ∷ []) p.1.now)
qubit_seen bs None h = tt
qubit_seen bs (Some p) h = qubit_target bs p.1.now p.0 h

-- and may be measured
pub measure_target : (bs rest : List ℕ) (q : ℕ) (t : MeasureTarget) → IsSpacedQubit bs q rest → t ≡ record { qubit = q; inverted = false } → AreSpacedTargets (each measure_target_of) bs (t ∷ []) rest
measure_target bs rest q t h e = (
  h.0 ∷ [],
  (one_word_more bs h.0 rest h.1, number_one h.0 h.2),
  λ more. ap (λ r. r >>= λ first. each measure_target_of more >>= λ others. Ok (first ∷ others)) (qubit_measured h.0 q h.3 ∙ ap Ok (sym e)),
)

two_words_more : (bs between ds es rest : List ℕ) → bs ≡ 32 ∷ (ds ++ between) → between ≡ 32 ∷ (es ++ rest) → bs ≡ spaced_words (ds ∷ es ∷ []) ++ rest
two_words_more bs between ds es rest e f =
    e
    ∙ ap (λ l. 32 ∷ (ds ++ l)) (one_word_more between es rest f)
    ∙ ap (λ l. 32 ∷ l) (sym (append_assoc ds (spaced_words (es ∷ [])) rest))

pair_numbers : (bs rest : List ℕ) (p : ℕ × ℕ) (h : IsSpacedPair bs p rest) → AreNumbers bs (h.1.0 ∷ h.2.0 ∷ []) rest
pair_numbers bs rest p h = (
  two_words_more bs h.0 h.1.0 h.2.0 rest h.1.1 h.2.1,
  both (is_number h.1.0) (list_all is_number (h.2.0 ∷ [])) h.1.2 (number_one h.2.0 h.2.2),
)

swapped : (x y : ℕ) (given : Result (List ℕ) Refusal) → x ≢ y → (((given >>= λ others. Ok (y ∷ others)) >>= λ others. Ok (x ∷ others)) >>= pairs_of) ≡ follows ((x, y) ∷ []) (given >>= pairs_of)
swapped x y (Ok more) ne = passed (x == y) _ _ (different x y ne)
swapped x y (Err r) ne = refl

-- a pair of qubits is one of targets
pair_target : (bs rest : List ℕ) (p : ℕ × ℕ) → IsSpacedPair bs p rest → AreSpacedTargets paired_words bs (p ∷ []) rest
pair_target bs rest p h = (
  h.1.0 ∷ h.2.0 ∷ [],
  pair_numbers bs rest p h,
  λ more. ap (λ r. (r >>= λ first. (qubit_of h.2.0 >>= λ next. each qubit_of more >>= λ others. Ok (next ∷ others)) >>= λ others. Ok (first ∷ others)) >>= pairs_of) h.1.3
      ∙ ap (λ r. ((r >>= λ next. each qubit_of more >>= λ others. Ok (next ∷ others)) >>= λ others. Ok (p.0 ∷ others)) >>= pairs_of) h.2.3
      ∙ swapped p.0 p.1 (each qubit_of more) h.3,
)

-- the same of what a look at the bytes gives
pub pair_seen : (bs : List ℕ) (r : Option ((ℕ × ℕ) × Bor (List ℕ))) → MatchOption r (Unit {0}) (λ p. IsSpacedPair bs p.0 p.1.now) → MatchOption r (Unit {0}) (λ p. AreSpacedTargets paired_words bs (p.0 ∷ []) p.1.now)
pair_seen bs None h = tt
pair_seen bs (Some p) h = pair_target bs p.1.now p.0 h

-- its first qubit may control the second
pub controlled_target : (bs rest : List ℕ) (p : ℕ × ℕ) (c : ControlledPair) → IsSpacedPair bs p rest → c ≡ pair.Qubits p → AreSpacedTargets controlled_of bs (c ∷ []) rest
controlled_target bs rest p c h e = (
  h.1.0 ∷ h.2.0 ∷ [],
  pair_numbers bs rest p h,
  λ more. ap (λ r. (r >>= λ by. qubit_of h.2.0 >>= λ q. by_turns more >>= λ others. Ok (record { control = by; qubit = q } ∷ others)) >>= each paired) (control_qubit h.1.0 p.0 h.1.3)
      ∙ second_is p.0 h.2.0 (by_turns more) c (qubit_of h.2.0)
      (ap (λ r. r >>= pair_of (control.Qubit p.0)) h.2.3 ∙ passed (p.0 == p.1) _ _ (different p.0 p.1 h.3) ∙ ap Ok (sym e)),
)

spaced_append : (xs ys : List (List ℕ)) → spaced_words (xs ++ ys) ≡ spaced_words xs ++ spaced_words ys
spaced_append [] ys = refl
spaced_append (x ∷ xs) ys = ap (λ l. 32 ∷ (x ++ l)) (spaced_append xs ys) ∙ ap (λ l. 32 ∷ l) (sym (append_assoc x (spaced_words xs) (spaced_words ys)))

follows_twice : {X : Type 0} (xs ys : List X) (given : Result (List X) Refusal) → follows xs (follows ys given) ≡ follows (xs ++ ys) given
follows_twice xs ys (Ok more) = ap Ok (sym (append_assoc xs ys more))
follows_twice xs ys (Err r) = refl

-- one target more
pub target_more : {X : Type 0} (meaning : List (List ℕ) → Result (List X) Refusal) (bs middle rest : List ℕ) (xs ys all : List X) → AreSpacedTargets meaning bs xs middle
    → AreSpacedTargets meaning middle ys rest → all ≡ xs ++ ys → AreSpacedTargets meaning bs all rest
target_more meaning bs middle rest xs ys all f g e = (
  f.0 ++ g.0,
  (
    f.1.0
        ∙ ap (λ l. spaced_words f.0 ++ l) g.1.0
        ∙ sym (append_assoc (spaced_words f.0) (spaced_words g.0) rest)
        ∙ ap (λ l. l ++ rest) (sym (spaced_append f.0 g.0)),
    list_all-append is_number f.0 g.0 ∙ both (list_all is_number f.0) _ f.1.1 g.1.1,
  ),
  λ more. ap meaning (append_assoc f.0 g.0 more)
      ∙ f.2 (g.0 ++ more)
      ∙ ap (follows xs) (g.2 more)
      ∙ follows_twice xs ys (meaning more)
      ∙ ap (λ l. follows l (meaning more)) (sym e),
)

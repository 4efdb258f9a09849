-- Printed pairs of a control and a qubit are read again as what they were printed of.
use Rattle.stab_circuit.proofs.Names.{◌≡◌, ◌<◌, refl, ap, ◌∙◌, ℕ, ◌==◌, List, [], ◌∷◌, ◌++◌, map, append_assoc, arith, codes, Ok, decimal, most_qubits, Control, ControlTarget, ControlledPair, ◌>>=◌, each, words, qubit_of, is_lookback, control_of, by_turns, paired, controlled_of, spaced, lookback_text, controlled_text}
use Rattle.stab_instructions.specs.declared.control.Control.TheVariants as control
use Rattle.stab_instructions.specs.declared.control.ControlledPair.TheVariants as pair
use Rattle.stab_instructions.proofs.BoolLemmas.{chosen, passed}
use Rattle.stab_instructions.proofs.TargetLemmas.{different}
use Rattle.stab_circuit.proofs.ControlLemmas.{no_record}
use Rattle.stab_instructions.proofs.LackLemmas.{Each}
use Rattle.stab_instructions.proofs.SureLemmas.{IsControlled}
use Rattle.stab_circuit.proofs.ReadBackLemmas.{IsWord, AreWords, decimal_digits, decimal_word, lookback_word, lookback_written, lookback_again, qubit_again, each_again, words_again, same_map}

-- the text of a control, and the qubit that it acts on
abbrev front : ControlledPair → List ℕ
front (pair.Qubits p) = decimal p.0
front (pair.Record q k) = lookback_text k

abbrev back : ControlledPair → ℕ
back (pair.Qubits p) = p.1
back (pair.Record q k) = q

-- the targets of pairs, a word each
abbrev pub flat : List ControlledPair → List (List ℕ)
flat [] = []
flat (x ∷ xs) = front x ∷ decimal (back x) ∷ flat xs

two_words : (x : ControlledPair) → controlled_text x ≡ front x ++ (codes " " ++ decimal (back x))
two_words (pair.Qubits p) = refl
two_words (pair.Record q k) = refl

pub controlled_spaced : (xs : List ControlledPair) → spaced controlled_text xs ≡ spaced (λ w. w) (flat xs)
controlled_spaced [] = refl
controlled_spaced (x ∷ xs) =
    ap (λ l. codes " " ++ (controlled_text x ++ l)) (controlled_spaced xs)
    ∙ ap (λ t. codes " " ++ (t ++ spaced (λ w. w) (flat xs))) (two_words x)
    ∙ ap (λ l. codes " " ++ l) (append_assoc (front x) (codes " " ++ decimal (back x)) (spaced (λ w. w) (flat xs)))

front_word : (x : ControlledPair) → IsControlled x → IsWord (front x)
front_word (pair.Qubits p) g = decimal_word p.0 (omega (arith, g.0))
front_word (pair.Record q k) g = lookback_word k g.0

back_small : (x : ControlledPair) → IsControlled x → back x < most_qubits
back_small (pair.Qubits p) g = g.1
back_small (pair.Record q k) g = g.1

pub flat_words : (xs : List ControlledPair) → Each IsControlled xs → AreWords (λ w. w) (flat xs)
flat_words [] g = tt
flat_words (x ∷ xs) g = (front_word x g.0, (decimal_word (back x) (omega (arith, back_small x g.0)), flat_words xs g.1))

-- the control of a pair
abbrev control_in : ControlledPair → Control
control_in (pair.Qubits p) = control.Qubit p.0
control_in (pair.Record q k) = control.Record k

control_again : (x : ControlledPair) → IsControlled x → control_of (front x) ≡ Ok (control_in x)
unfolding control_of
control_again (pair.Qubits p) g =
    passed (is_lookback (decimal p.0)) _ _ (no_record (decimal p.0) (decimal_digits p.0 (omega (arith, g.0)))) ∙ ap (λ r. r >>= λ q. Ok (control.Qubit q)) (qubit_again p.0 g.0)
control_again (pair.Record q k) g =
    chosen (is_lookback (lookback_text k)) _ _ (lookback_written k (omega (arith, g.0.1))) ∙ ap (λ r. r >>= λ j. Ok (control.Record j)) (lookback_again k g.0)

abbrev turn : ControlledPair → ControlTarget
turn x = record { control = control_in x; qubit = back x }

turns_again : (xs : List ControlledPair) → Each IsControlled xs → by_turns (flat xs) ≡ Ok (map turn xs)
turns_again [] g = refl
turns_again (x ∷ xs) g =
    ap (λ r. r >>= λ c. qubit_of (decimal (back x)) >>= λ q. by_turns (flat xs) >>= λ more. Ok (record { control = c; qubit = q } ∷ more)) (control_again x g.0)
    ∙ ap (λ r. r >>= λ q. by_turns (flat xs) >>= λ more. Ok (record { control = control_in x; qubit = q } ∷ more)) (qubit_again (back x) (back_small x g.0))
    ∙ ap (λ r. r >>= λ more. Ok (turn x ∷ more)) (turns_again xs g.1)

pair_again : (x : ControlledPair) → IsControlled x → paired (turn x) ≡ Ok x
pair_again (pair.Qubits p) g = passed (p.0 == p.1) _ _ (different p.0 p.1 g.2)
pair_again (pair.Record q k) g = refl

-- the words of pairs are read as the pairs
pub controlled_pairs_again : (xs : List ControlledPair) → Each IsControlled xs → controlled_of (words (spaced controlled_text xs)) ≡ Ok xs
controlled_pairs_again xs g =
    ap (λ t. controlled_of (words t)) (controlled_spaced xs)
    ∙ ap controlled_of (words_again (λ w. w) (flat xs) (flat_words xs g) ∙ same_map (flat xs))
    ∙ ap (λ r. r >>= each paired) (turns_again xs g)
    ∙ each_again paired turn IsControlled pair_again xs g

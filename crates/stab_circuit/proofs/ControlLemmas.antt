-- Controls: targets by turns, one pair more.
use Rattle.stab_circuit.proofs.Names.{◌≡◌, Bor, Option, Some, None, MatchOption, ℕ, true, false, ◌&&◌, nat_eq, List, [], ◌∷◌, ◌++◌, codes, Result, Ok, Err, refl, ap, sym, ◌∙◌, append_assoc, arith, list_all, starts_with, nat_tests, Refusal, Control, ControlTarget, ControlledPair, ◌>>=◌, each, is_digit, ends_with_byte, words, is_number, is_some_word, qubit_of, is_lookback, lookback_digits, control_of, by_turns, pair_of, paired, controlled_of, BeginsWithTarget, begun_with, second_of}
use Rattle.stab_instructions.specs.declared.control.Control.TheVariants as control
use Rattle.stab_instructions.proofs.BoolLemmas.{and_left, and_right, passed}
use Rattle.stab_circuit.proofs.FrontTargetLemmas.{qubit_is_number}
use Rattle.stab_circuit.proofs.ResultLemmas.{following}

one_more : (front : List ControlTarget) (x : ControlTarget) (given : Result (List ControlTarget) Refusal) → following (front ++ x ∷ []) given ≡ following front (given >>= λ rest. Ok (x ∷ rest))
one_more front x (Ok rest) = ap Ok (append_assoc front (x ∷ []) rest)
one_more front x (Err e) = refl

pub turns_next : (front new : List ControlTarget) (all after : List (List ℕ)) (a b : List ℕ) (rest : List (List ℕ)) (c : Control) (q : ℕ)
    → all ≡ a ∷ after → after ≡ b ∷ rest → Ok c ≡ control_of a → Ok q ≡ qubit_of b → new ≡ front ++ record { control = c; qubit = q } ∷ []
    → following new (by_turns rest) ≡ following front (by_turns all)
turns_next front new all after a b rest c q e f g h n =
    ap (λ l. following l (by_turns rest)) n
    ∙ one_more front (record { control = c; qubit = q }) (by_turns rest)
    ∙ ap (λ r. following front (r >>= λ x. by_turns rest >>= λ more. Ok (record { control = c; qubit = x } ∷ more))) h
    ∙ ap (λ r. following front (r >>= λ x. qubit_of b >>= λ y. by_turns rest >>= λ more. Ok (record { control = x; qubit = y } ∷ more))) g
    ∙ ap (λ l. following front (by_turns (a ∷ l))) (sym f)
    ∙ ap (λ l. following front (by_turns l)) (sym e)

-- digits are no record
pub no_record : (ds : List ℕ) → list_all is_digit ds ≡ true → is_lookback ds ≡ false
no_record [] h = refl
no_record (d ∷ ds) h = ap (λ b. b && starts_with nat_eq ds (codes "ec[-") && ends_with_byte (d ∷ ds) 93 && is_number (lookback_digits (d ∷ ds))) (other d (and_left (is_digit d) (list_all is_digit ds) h))
  where
    other : (x : ℕ) → is_digit x ≡ true → nat_eq 114 x ≡ false
    other x e = grind (arith, nat_tests)

pub control_qubit : (word : List ℕ) (q : ℕ) → qubit_of word ≡ Ok q → control_of word ≡ Ok (control.Qubit q)
unfolding control_of
control_qubit word q h =
    passed (is_lookback word) _ _ (no_record word (and_right (is_some_word word) _ (qubit_is_number word q h)))
    ∙ ap (λ r. r >>= λ x. Ok (control.Qubit x)) h

pair_more : (p : ControlledPair) (given : Result (List ControlTarget) Refusal) (t : ControlTarget) → paired t ≡ Ok p
    → ((given >>= λ more. Ok (t ∷ more)) >>= each paired) ≡ ((given >>= each paired) >>= λ more. Ok (p ∷ more))
pair_more p (Ok more) t e = ap (λ r. r >>= λ first. each paired more >>= λ rest. Ok (first ∷ rest)) e
pair_more p (Err r) t e = refl

-- a qubit in front that makes a pair with one before it
pub second_begins : (x : ℕ) (bs rest : List ℕ) (y : ℕ) (p : ControlledPair) → BeginsWithTarget qubit_of bs y rest → Ok p ≡ pair_of (control.Qubit x) y → BeginsWithTarget (second_of x) bs p rest
second_begins x bs rest y p g e = (g.0, g.1, ap (λ r. r >>= pair_of (control.Qubit x)) g.2 ∙ sym e)

pub second_is : (x : ℕ) (word : List ℕ) (given : Result (List ControlTarget) Refusal) (p : ControlledPair) (q : Result ℕ Refusal) → (q >>= pair_of (control.Qubit x)) ≡ Ok p
    → ((q >>= λ y. given >>= λ more. Ok (record { control = control.Qubit x; qubit = y } ∷ more)) >>= each paired) ≡ begun_with p (given >>= each paired)
second_is x word given p (Ok y) e = pair_more p given (record { control = control.Qubit x; qubit = y }) e
second_is x word given p (Err r) e = cc

-- two qubits in front that make a pair are a pair in front
pub pair_begins : (bs after rest : List ℕ) (x : ℕ) (p : ControlledPair) → BeginsWithTarget qubit_of bs x after → BeginsWithTarget (second_of x) after p rest
    → controlled_of (words bs) ≡ begun_with p (controlled_of (words rest))
pair_begins bs after rest x p f g =
    ap controlled_of (f.1 ∙ ap (λ l. f.0 ∷ l) g.1)
    ∙ ap (λ r. (r >>= λ c. qubit_of g.0 >>= λ q. by_turns (words rest) >>= λ more. Ok (record { control = c; qubit = q } ∷ more)) >>= each paired) (control_qubit f.0 x f.2)
    ∙ second_is x g.0 (by_turns (words rest)) p (qubit_of g.0) g.2

-- the same of what a look at the second gives
pub pair_seen : (bs after : List ℕ) (x : ℕ) (r : Option (ControlledPair × Bor (List ℕ))) → BeginsWithTarget qubit_of bs x after → MatchOption r (Unit {0}) (λ p. BeginsWithTarget (second_of x) after p.0 p.1.now)
    → MatchOption r (Unit {0}) (λ p. controlled_of (words bs) ≡ begun_with p.0 (controlled_of (words p.1.now)))
pair_seen bs after x None f g = tt
pair_seen bs after x (Some p) f g = pair_begins bs after p.1.now x p.0 f g

-- one pair more
pub pairs_next : (front new : List ControlledPair) (x : ControlledPair) (all rest : List (List ℕ)) → new ≡ front ++ x ∷ [] → controlled_of all ≡ begun_with x (controlled_of rest)
    → following new (controlled_of rest) ≡ following front (controlled_of all)
pairs_next front new x all rest n e = ap (λ l. following l (controlled_of rest)) n ∙ pair_joined front x (controlled_of rest) ∙ ap (following front) (sym e)
  where
    pair_joined : (front : List ControlledPair) (x : ControlledPair) (given : Result (List ControlledPair) Refusal) → following (front ++ x ∷ []) given ≡ following front (given >>= λ more. Ok (x ∷ more))
    pair_joined front x (Ok more) = ap Ok (append_assoc front (x ∷ []) more)
    pair_joined front x (Err r) = refl

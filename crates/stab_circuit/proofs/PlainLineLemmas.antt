-- The line of an instruction on numbers alone that is read off the front of a text.
use Rattle.stab_circuit.proofs.Names.{Bor, suc, ◌+◌, if◌then◌else◌, pieces_after, Option, Some, None, MatchOption, IfOk, ◌≡◌, ◌<◌, ℕ, Bool, true, false, ◌||◌, List, [], ◌∷◌, ◌++◌, length, take, drop, Result, Ok, Err, refl, sym, ap, subst, ◌∙◌, arith, append_assoc, append-nil, option_copied, list_all, list_any, slice_split, prefix_len, length-append, take-append-drop, Refusal, Gate, Axis, MeasureTarget, ControlledPair, Measurement, Instruction, Kind, ◌>>=◌, each, is_byte, is_letter, is_name_byte, is_brace, content_of, words, is_number, is_some_word, name_of, qubit_of, measure_target_of, pairs_of, controlled_of, kind_of, without_open, named_line, shape_meaning, meaning_of, head_text, BeginsWithInstruction, ReadsInstruction, follows, EndsLine, paired_words, spaced_words, AreSpacedTargets, ReadsTargets, plain_shape, BeginsWithKind, ReadsKind}
use Rattle.stab_instructions.specs.declared.name.Instruction.TheVariants as instruction
use Rattle.stab_instructions.specs.declared.name.Name.TheVariants as name
use Rattle.stab_instructions.specs.declared.operation.Kind.TheVariants as kind
use Rattle.stab_instructions.specs.declared.operation.Line.TheVariants as line
use Rattle.stab_instructions.proofs.BoolLemmas.{both, and_left, and_right}
use Rattle.stab_instructions.proofs.LackLemmas.{Each, Lacks, lacks-append, split_lacking, split_last, digits_lack}
use Rattle.stab_circuit.proofs.ReadBackLemmas.{AreWords, words_again, same_map, spacing_no}
use Rattle.stab_circuit.proofs.NeatLemmas.{IsNeat, content_again}
use Rattle.stab_circuit.proofs.ShapeLemmas.{IsName, name_is, shape_again}
use Rattle.stab_circuit.proofs.ContentLemmas.{IsClear, AreTargets, spaced_targets, ends_well}
use Rattle.stab_circuit.proofs.PrintedLemmas.{head_lacks, line_ends_outer, comments_outer, headed_solid, head_ends}
use Rattle.stab_circuit.proofs.MeaningLemmas.{headed_means, no_braces}

take_none : (xs : List ℕ) → take 0 xs ≡ []
take_none [] = refl
take_none (x ∷ xs) = refl

-- the bytes in front that pass, pass
all_cut : (p : ℕ → Bool) (x : ℕ) (xs : List ℕ) (b : Bool) → p x ≡ b → list_all p (take (prefix_len p xs) xs) ≡ true → list_all p (take (if b then 1 + prefix_len p xs else 0) (x ∷ xs)) ≡ true
all_cut p x xs true e h =
    let one : 1 + prefix_len p xs ≡ suc (prefix_len p xs) = omega arith in
    ap (λ n. list_all p (take n (x ∷ xs))) one ∙ both (p x) (list_all p (take (prefix_len p xs) xs)) e h
all_cut p x xs false e h = refl

all_front : (p : ℕ → Bool) (xs : List ℕ) → list_all p (take (prefix_len p xs) xs) ≡ true
all_front p [] = refl
all_front p (x ∷ xs) = all_cut p x xs (p x) refl (all_front p xs)

-- a text is cut after its first line
line_split : (first rest : List ℕ) (after : Option (List ℕ)) → Lacks (is_byte 10) first → EndsLine rest after → slice_split (is_byte 10) (first ++ rest) ≡ first ∷ pieces_after 10 after
line_split first rest None f e = ap (λ l. slice_split (is_byte 10) (first ++ l)) e ∙ ap (slice_split (is_byte 10)) (append-nil first) ∙ split_last (is_byte 10) first f
line_split first rest (Some after) f e = ap (λ l. slice_split (is_byte 10) (first ++ l)) e ∙ split_lacking (is_byte 10) first 10 after f refl

-- numbers are words
number_words : (ws : List (List ℕ)) → list_all is_number ws ≡ true → AreWords (λ w. w) ws
number_words [] h = tt
number_words (w ∷ ws) h =
    let number : is_number w ≡ true = and_left (is_number w) (list_all is_number ws) h in
    ((digits_lack _ w spacing_no (and_right (is_some_word w) _ number), and_left (is_some_word w) _ number), number_words ws (and_right (is_number w) (list_all is_number ws) h))

plain_words : (ws : List (List ℕ)) → list_all is_number ws ≡ true → words (spaced_words ws) ≡ ws
plain_words ws h = words_again (λ w. w) ws (number_words ws h) ∙ same_map ws

-- numbers are digits alone
number_clear : (ws : List (List ℕ)) → list_all is_number ws ≡ true → Each (λ w. (p : ℕ → Bool) → IsClear p → Lacks p w) ws
number_clear [] h = tt
number_clear (w ∷ ws) h = (
  λ p c. digits_lack p w c.digits (and_right (is_some_word w) _ (and_left (is_number w) (list_all is_number ws) h)),
  number_clear ws (and_right (is_number w) (list_all is_number ws) h),
)

plain_targets : (ws : List (List ℕ)) → list_all is_number ws ≡ true → AreTargets (spaced_words ws)
plain_targets ws h = spaced_targets (λ w. w) ws (number_words ws h) (number_clear ws h)

-- what they mean if nothing follows
plain_read : {X : Type 0} (meaning : List (List ℕ) → Result (List X) Refusal) (ws : List (List ℕ)) (xs : List X) → meaning [] ≡ Ok [] → list_all is_number ws ≡ true
    → ((more : List (List ℕ)) → meaning (ws ++ more) ≡ follows xs (meaning more)) → meaning (words (spaced_words ws)) ≡ Ok xs
plain_read meaning ws xs none h read =
    ap meaning (plain_words ws h ∙ sym (append-nil ws))
    ∙ read []
    ∙ ap (follows xs) none
    ∙ ap Ok (append-nil xs)

-- an instruction on such targets
plain_kind : {X : Type 0} (i : Instruction) (meaning : List (List ℕ) → Result (List X) Refusal) (k : List X → Kind) (bs rest : List ℕ) (xs : List X) (after : Option (List ℕ)) → meaning [] ≡ Ok []
    → ((name : List ℕ) (ws : List (List ℕ)) → kind_of i (plain_shape name ws) ≡ (meaning (words (spaced_words ws)) >>= λ found. Ok (k found)))
    → AreSpacedTargets meaning bs xs rest → EndsLine rest after → BeginsWithKind i bs (k xs) after
plain_kind i meaning k bs rest xs after none does h e = (
  h.0,
  rest,
  h.1,
  e,
  λ name. does name h.0 ∙ ap (λ r. r >>= λ found. Ok (k found)) (plain_read meaning h.0 xs none h.1.1 h.2),
)

gate_does : (g : Gate) (name : List ℕ) (ws : List (List ℕ)) → kind_of (instruction.Gate g) (plain_shape name ws) ≡ (each qubit_of (words (spaced_words ws)) >>= λ found. Ok (kind.Gate g found))
unfolding kind_of
gate_does g name ws = refl

reset_does : (a : Axis) (name : List ℕ) (ws : List (List ℕ)) → kind_of (instruction.Reset a) (plain_shape name ws) ≡ (each qubit_of (words (spaced_words ws)) >>= λ found. Ok (kind.Reset a found))
unfolding kind_of
reset_does a name ws = refl

measure_does : (m : Measurement) (name : List ℕ) (ws : List (List ℕ))
    → kind_of (instruction.Measure m) (plain_shape name ws) ≡ (each measure_target_of (words (spaced_words ws)) >>= λ found. Ok (kind.Measure m found))
unfolding kind_of
measure_does m name ws = refl

controlled_does : (a : Axis) (name : List ℕ) (ws : List (List ℕ)) → kind_of (instruction.Controlled a) (plain_shape name ws) ≡ (controlled_of (words (spaced_words ws)) >>= λ found. Ok (kind.Controlled a found))
unfolding kind_of
controlled_does a name ws = refl

swap_does : (name : List ℕ) (ws : List (List ℕ)) → kind_of instruction.Swap (plain_shape name ws) ≡ (paired_words (words (spaced_words ws)) >>= λ found. Ok (kind.Swap found))
unfolding kind_of
swap_does name ws = joined (each qubit_of (words (spaced_words ws)))
  where
    joined : (given : Result (List ℕ) Refusal) → (given >>= λ qubits. pairs_of qubits >>= λ pairs. Ok (kind.Swap pairs)) ≡ ((given >>= pairs_of) >>= λ found. Ok (kind.Swap found))
    joined (Ok qubits) = refl
    joined (Err r) = refl

kind_reported : {X : Type 0} (i j : Instruction) (meaning : List (List ℕ) → Result (List X) Refusal) (k : List X → Kind) (bs : List ℕ) (given : Option (List X × Option (Bor (List ℕ)))) (found : List X × Option (Bor (List ℕ)))
    → meaning [] ≡ Ok [] → ((name : List ℕ) (ws : List (List ℕ)) → kind_of j (plain_shape name ws) ≡ (meaning (words (spaced_words ws)) >>= λ xs. Ok (k xs)))
    → i ≡ j → given ≡ Some found → ReadsTargets meaning bs (Ok given) → BeginsWithKind i bs (k found.0) (option_copied found.1)
kind_reported i j meaning k bs given found none does e s h =
    let reported = subst (λ x. ReadsTargets meaning bs (Ok x)) s h in
    subst (λ x. BeginsWithKind x bs (k found.0) (option_copied found.1)) (sym e) (plain_kind j meaning k bs reported.0 found.0 (option_copied found.1) none does reported.1 reported.2)

-- what each instruction does to the targets that were met
pub gate_reported : (i : Instruction) (g : Gate) (bs : List ℕ) (given : Option (List ℕ × Option (Bor (List ℕ)))) (found : List ℕ × Option (Bor (List ℕ))) → i ≡ instruction.Gate g → given ≡ Some found
    → ReadsTargets (each qubit_of) bs (Ok given) → BeginsWithKind i bs (kind.Gate g found.0) (option_copied found.1)
gate_reported i g bs given found e s h = kind_reported i (instruction.Gate g) (each qubit_of) (kind.Gate g) bs given found refl (gate_does g) e s h

pub reset_reported : (i : Instruction) (a : Axis) (bs : List ℕ) (given : Option (List ℕ × Option (Bor (List ℕ)))) (found : List ℕ × Option (Bor (List ℕ))) → i ≡ instruction.Reset a → given ≡ Some found
    → ReadsTargets (each qubit_of) bs (Ok given) → BeginsWithKind i bs (kind.Reset a found.0) (option_copied found.1)
reset_reported i a bs given found e s h = kind_reported i (instruction.Reset a) (each qubit_of) (kind.Reset a) bs given found refl (reset_does a) e s h

pub measure_reported : (i : Instruction) (m : Measurement) (bs : List ℕ) (given : Option (List MeasureTarget × Option (Bor (List ℕ)))) (found : List MeasureTarget × Option (Bor (List ℕ))) → i ≡ instruction.Measure m
    → given ≡ Some found → ReadsTargets (each measure_target_of) bs (Ok given) → BeginsWithKind i bs (kind.Measure m found.0) (option_copied found.1)
measure_reported i m bs given found e s h = kind_reported i (instruction.Measure m) (each measure_target_of) (kind.Measure m) bs given found refl (measure_does m) e s h

pub controlled_reported : (i : Instruction) (a : Axis) (bs : List ℕ) (given : Option (List ControlledPair × Option (Bor (List ℕ)))) (found : List ControlledPair × Option (Bor (List ℕ))) → i ≡ instruction.Controlled a
    → given ≡ Some found → ReadsTargets controlled_of bs (Ok given) → BeginsWithKind i bs (kind.Controlled a found.0) (option_copied found.1)
controlled_reported i a bs given found e s h = kind_reported i (instruction.Controlled a) controlled_of (kind.Controlled a) bs given found refl (controlled_does a) e s h

pub swap_reported : (i : Instruction) (bs : List ℕ) (given : Option (List (ℕ × ℕ) × Option (Bor (List ℕ)))) (found : List (ℕ × ℕ) × Option (Bor (List ℕ))) → i ≡ instruction.Swap → given ≡ Some found
    → ReadsTargets paired_words bs (Ok given) → BeginsWithKind i bs (kind.Swap found.0) (option_copied found.1)
swap_reported i bs given found e s h = kind_reported i instruction.Swap paired_words kind.Swap bs given found refl swap_does e s h

-- a name is one
plain_name : (name : List ℕ) → list_all is_name_byte name ≡ true → list_any is_letter (take 1 name) ≡ true → IsName name
plain_name [] h l = cc
plain_name (x ∷ xs) h l = name_is x xs (letter (is_letter x) (sym (ap (λ ys. is_letter x || list_any is_letter ys) (take_none xs)) ∙ l)) h
  where
    letter : (b : Bool) → (b || false) ≡ true → b ≡ true
    letter true e = refl
    letter false e = e

-- the line of a name with numbers after it
abbrev plain_line : List ℕ → List (List ℕ) → List ℕ
plain_line name ws = head_text name [] ++ spaced_words ws

plain_neat : (name : List ℕ) (ws : List (List ℕ)) → IsName name → list_all is_number ws ≡ true → IsNeat (plain_line name ws)
plain_neat name ws n h =
    let targets = plain_targets ws h in record {
      lines = lacks-append (is_byte 10) (head_text name []) (spaced_words ws) (head_lacks (is_byte 10) line_ends_outer name [] n tt) (targets.lacks (is_byte 10) line_ends_outer.targets);
      comments = lacks-append (is_byte 35) (head_text name []) (spaced_words ws) (head_lacks (is_byte 35) comments_outer name [] n tt) (targets.lacks (is_byte 35) comments_outer.targets);
      solid = headed_solid name [] (spaced_words ws) n (ends_well (head_text name []) (spaced_words ws) (head_ends name [] n) targets.ends);
    }

plain_means : (text : List ℕ) (ws : List (List ℕ)) (i : Instruction) (k : Kind) → IsName text → list_all is_number ws ≡ true → name_of text ≡ Ok (name.Instruction i) → kind_of i (plain_shape text ws) ≡ Ok k
    → meaning_of (content_of (plain_line text ws)) ≡ Ok (line.Operation (record { kind = k; tag = [] }))
unfolding named_line
plain_means text ws i k n h named does =
    let s = plain_shape text ws in
    let targets = plain_targets ws h in
    ap meaning_of (content_again 0 (plain_line text ws) (plain_neat text ws n h))
    ∙ headed_means text [] (spaced_words ws) n
    ∙ ap (λ r. r >>= shape_meaning) (shape_again text [] [] (spaced_words ws) n tt tt targets.can_follow (targets.lacks is_brace no_braces))
    ∙ ap (λ r. r >>= named_line s) named
    ∙ ap (λ r. r >>= λ what. without_open s (Ok (line.Operation (record { kind = what; tag = [] })))) does

plain_text : (text first bs rest : List ℕ) (ws : List (List ℕ)) → text ≡ first ++ bs → bs ≡ spaced_words ws ++ rest → text ≡ plain_line first ws ++ rest
plain_text text first bs rest ws e f =
    e
    ∙ ap (λ l. first ++ l) f
    ∙ sym (append_assoc first (spaced_words ws) rest)
    ∙ ap (λ l. (l ++ spaced_words ws) ++ rest) (sym (append-nil first))

-- an instruction in front of a text
plain_begins : (text first bs : List ℕ) (i : Instruction) (k : Kind) (after : Option (List ℕ)) → text ≡ first ++ bs → IsName first → name_of first ≡ Ok (name.Instruction i) → BeginsWithKind i bs k after
    → BeginsWithInstruction text k after
plain_begins text first bs i k after e n named h = (
  plain_line first h.0,
  ap (slice_split (is_byte 10)) (plain_text text first bs h.1 h.0 e h.2.0) ∙ line_split (plain_line first h.0) h.1 after (plain_neat first h.0 n h.2.1).lines h.3,
  plain_means first h.0 i k n h.2.1 named (h.4 first),
)

plain_reported : (text first bs : List ℕ) (i : Instruction) (r : Result (Option (Kind × Option (Bor (List ℕ)))) Refusal) → text ≡ first ++ bs → IsName first → name_of first ≡ Ok (name.Instruction i)
    → ReadsKind i bs r → ReadsInstruction text r
plain_reported text first bs i (Ok None) e n named h = tt
plain_reported text first bs i (Ok (Some found)) e n named h = plain_begins text first bs i found.0 (option_copied found.1) e n named h
plain_reported text first bs i (Err r) e n named h = h

parts : (text first bs : List ℕ) (k : ℕ) → first ≡ take k text → bs ≡ drop k text → text ≡ first ++ bs
parts text first bs k f b = sym (take-append-drop k text) ∙ ap (λ l. l ++ drop k text) (sym f) ∙ ap (λ l. first ++ l) (sym b)

-- the name that is in front
pub name_reported : (text first bs : List ℕ) (k : ℕ) (i : Instruction) (r : Result (Option (Kind × Option (Bor (List ℕ)))) Refusal) → first ≡ take k text → bs ≡ drop k text → k ≡ prefix_len is_name_byte text
    → list_any is_letter (take 1 first) ≡ true → name_of first ≡ Ok (name.Instruction i) → ReadsKind i bs r → ReadsInstruction text r
name_reported text first bs k i r f b p l named h =
    plain_reported text first bs i r (parts text first bs k f b) (plain_name first (ap (list_all is_name_byte) (f ∙ ap (λ n. take n text) p) ∙ all_front is_name_byte text) l) named h

-- what follows it is shorter
after_shorter : (text first bs rest : List ℕ) (ws : List (List ℕ)) (after : Option (List ℕ)) → text ≡ first ++ bs → bs ≡ spaced_words ws ++ rest → EndsLine rest after
    → MatchOption after (Unit {0}) (λ l. length l < length text)
after_shorter text first bs rest ws None e f a = tt
after_shorter text first bs rest ws (Some after) e f a = omega (arith, ap length e, ap length f, ap length a, length-append first bs, length-append (spaced_words ws) rest)

plain_shorter : (text first bs : List ℕ) (i : Instruction) (r : Result (Option (Kind × Option (Bor (List ℕ)))) Refusal) → text ≡ first ++ bs → ReadsKind i bs r
    → IfOk r (λ found. MatchOption found (Unit {0}) (λ p. MatchOption (option_copied p.1) (Unit {0}) (λ after. length after < length text)))
plain_shorter text first bs i (Ok None) e h = tt
plain_shorter text first bs i (Ok (Some found)) e h = after_shorter text first bs h.1 h.0 (option_copied found.1) e h.2.0 h.3
plain_shorter text first bs i (Err r) e h = tt

pub name_shorter : (text first bs : List ℕ) (k : ℕ) (i : Instruction) (r : Result (Option (Kind × Option (Bor (List ℕ)))) Refusal) → first ≡ take k text → bs ≡ drop k text → ReadsKind i bs r
    → IfOk r (λ found. MatchOption found (Unit {0}) (λ p. MatchOption (option_copied p.1) (Unit {0}) (λ after. length after < length text)))
name_shorter text first bs k i r f b h = plain_shorter text first bs i r (parts text first bs k f b) h

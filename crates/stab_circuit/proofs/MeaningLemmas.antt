-- Printed contents mean what they were printed of.
use Rattle.stab_circuit.proofs.Names.{◌≡◌, ◌<◌, ◌^◌, refl, ap, sym, ◌∙◌, ℕ, ◌==◌, ◌&&◌, List, [], ◌∷◌, ◌++◌, Bool, true, false, length, filter, append_assoc, arith, codes, if◌then◌else◌, Ok, decimal, slice_split-cons_yes, nat_tests, Gate, most_observables, Axis, Instruction, Kind, Operation, Open, Close, ◌>>=◌, each, Shape, is_spacing, is_digit, is_letter, is_brace, shape_of, words, is_some_word, is_number, arguments_of, gate_named, controlled_named, measurement_named, other_named, instruction_named, name_of, gate_name, controlled_name, measurement_name, reset_name, pair_qubits, qubit_of, lookback_of, count_of, pairs_of, coordinate_of, number_of, observable_of, kind_of, observable_include_of, without_open, only_count, opening_of, block_of, named_line, shape_meaning, is_close, meaning_of, kind_name, tag_text, kind_arguments, lookback_text, spaced, targets_text, head_text, operation_text, open_text}
use Rattle.stab_gates.specs.declared.gate.Gate.TheVariants as one
use Rattle.stab_instructions.specs.declared.axis.Axis.TheVariants as axis
use Rattle.stab_instructions.specs.declared.name.Instruction.TheVariants as instruction
use Rattle.stab_instructions.specs.declared.name.Name.TheVariants as name
use Rattle.stab_instructions.specs.declared.operation.Kind.TheVariants as kind
use Rattle.stab_instructions.specs.declared.operation.Line.TheVariants as line
use Rattle.stab_instructions.proofs.BoolLemmas.{chosen, passed}
use Rattle.stab_instructions.proofs.LackLemmas.{Each, Lacks, lacks-append, digits_lack, split_lacking, tag_lacks}
use Rattle.stab_instructions.proofs.SureLemmas.{IsCount, IsCoordinate, IsGoodKind, IsTag}
use Rattle.stab_circuit.proofs.ReadBackLemmas.{decimal_digits, decimal_number, decimal_some, decimal_word, arguments_again, qubits_again, targets_again, lookbacks_again, pairs_again, pairs_spaced, pair_qubits_good, coordinate_again, count_again, observable_again, each_again, same_map}
use Rattle.stab_circuit.proofs.FactorLemmas.{products_again}
use Rattle.stab_circuit.proofs.ControlReadBackLemmas.{controlled_pairs_again}
use Rattle.stab_circuit.proofs.ShapeLemmas.{IsName, inner_of, shape_again, open_shape_again}
use Rattle.stab_circuit.proofs.ContentLemmas.{IsClear, kind_is, repeat_is, kind_targets, kind_coordinates}

-- the instruction of a kind
abbrev instruction_of : Kind → Instruction
instruction_of (kind.Gate g qubits) = instruction.Gate g
instruction_of (kind.Controlled axis pairs) = instruction.Controlled axis
instruction_of (kind.Swap pairs) = instruction.Swap
instruction_of (kind.Measure m targets) = instruction.Measure m
instruction_of (kind.Reset axis qubits) = instruction.Reset axis
instruction_of (kind.MeasureProducts products) = instruction.MeasureProducts
instruction_of (kind.Detector located) = instruction.Detector
instruction_of (kind.ObservableInclude j ks) = instruction.ObservableInclude
instruction_of kind.Tick = instruction.Tick
instruction_of (kind.QubitCoords located) = instruction.QubitCoords
instruction_of (kind.ShiftCoords coordinates) = instruction.ShiftCoords

gate_again : (g : Gate) → name_of (gate_name g) ≡ Ok (name.Instruction (instruction.Gate g))
unfolding name_of instruction_named gate_named controlled_named measurement_named other_named
gate_again one.I = refl
gate_again one.X = refl
gate_again one.Y = refl
gate_again one.Z = refl
gate_again one.H = refl
gate_again one.S = refl
gate_again one.SDag = refl
gate_again one.CXyz = refl
gate_again one.CZyx = refl
gate_again one.SqrtX = refl
gate_again one.SqrtXDag = refl
gate_again one.SqrtY = refl
gate_again one.SqrtYDag = refl

controlled_again : (a : Axis) → name_of (controlled_name a) ≡ Ok (name.Instruction (instruction.Controlled a))
unfolding name_of instruction_named gate_named controlled_named measurement_named other_named
controlled_again axis.X = refl
controlled_again axis.Y = refl
controlled_again axis.Z = refl

measured_again : (a : Axis) (resets : Bool) → name_of (measurement_name (record { axis = a; resets = resets })) ≡ Ok (name.Instruction (instruction.Measure (record { axis = a; resets = resets })))
unfolding name_of instruction_named gate_named controlled_named measurement_named other_named
measured_again axis.X true = refl
measured_again axis.Y true = refl
measured_again axis.Z true = refl
measured_again axis.X false = refl
measured_again axis.Y false = refl
measured_again axis.Z false = refl

reset_again : (a : Axis) → name_of (reset_name a) ≡ Ok (name.Instruction (instruction.Reset a))
unfolding name_of instruction_named gate_named controlled_named measurement_named other_named
reset_again axis.X = refl
reset_again axis.Y = refl
reset_again axis.Z = refl

-- a printed name is the name of its instruction
pub kind_name_again : (k : Kind) → name_of (kind_name k) ≡ Ok (name.Instruction (instruction_of k))
unfolding name_of instruction_named gate_named controlled_named measurement_named other_named
kind_name_again (kind.Gate g qubits) = gate_again g
kind_name_again (kind.Controlled axis pairs) = controlled_again axis
kind_name_again (kind.Swap pairs) = refl
kind_name_again (kind.Measure m targets) = measured_again m.axis m.resets
kind_name_again (kind.Reset axis qubits) = reset_again axis
kind_name_again (kind.MeasureProducts products) = refl
kind_name_again (kind.Detector located) = refl
kind_name_again (kind.ObservableInclude j ks) = refl
kind_name_again kind.Tick = refl
kind_name_again (kind.QubitCoords located) = refl
kind_name_again (kind.ShiftCoords coordinates) = refl

repeat_again : name_of (codes "REPEAT") ≡ Ok name.Repeat
unfolding name_of
repeat_again = refl

-- the shape of a printed instruction
abbrev shape_for : List ℕ → Kind → Shape
shape_for tag k = record { name = kind_name k; tag = tag; arguments = inner_of (kind_arguments k); targets = targets_text k; opens = false }

all_again : (arguments : List (List ℕ)) → Each IsCoordinate arguments → arguments_of (inner_of arguments) ≡ arguments
all_again [] c = refl
all_again (a ∷ more) c = arguments_again a more c

coordinates_again : (arguments : List (List ℕ)) → Each IsCoordinate arguments → each coordinate_of (arguments_of (inner_of arguments)) ≡ Ok arguments
coordinates_again arguments c =
    ap (each coordinate_of) (all_again arguments c ∙ sym (same_map arguments)) ∙ each_again coordinate_of (λ a. a) IsCoordinate coordinate_again arguments c

number_again : (j : ℕ) → j < most_observables → number_of (arguments_of (inner_of (decimal j ∷ []))) ≡ Ok (decimal j)
unfolding number_of
number_again j small =
    let wide : j < 2 ^ 64 = omega (arith, small) in
    ap number_of (all_again (decimal j ∷ []) (kind_coordinates (kind.ObservableInclude j []) (small, tt)))
    ∙ chosen (is_number (decimal j)) _ _ (decimal_number j wide)

-- a printed instruction is read as what it was printed of
kind_again : (tag : List ℕ) (k : Kind) → IsGoodKind k → kind_of (instruction_of k) (shape_for tag k) ≡ Ok k
unfolding kind_of observable_include_of
kind_again tag (kind.Gate gate qubits) g = ap (λ r. r >>= λ qs. Ok (kind.Gate gate qs)) (qubits_again qubits g)
kind_again tag (kind.Controlled axis pairs) g = ap (λ r. r >>= λ ps. Ok (kind.Controlled axis ps)) (controlled_pairs_again pairs g)
kind_again tag (kind.Swap pairs) g =
    ap (λ t. each qubit_of (words t) >>= λ qs. pairs_of qs >>= λ ps. Ok (kind.Swap ps)) (pairs_spaced pairs)
    ∙ ap (λ r. r >>= λ qs. pairs_of qs >>= λ ps. Ok (kind.Swap ps)) (qubits_again (pair_qubits pairs) (pair_qubits_good pairs g))
    ∙ ap (λ r. r >>= λ ps. Ok (kind.Swap ps)) (pairs_again pairs g)
kind_again tag (kind.Measure m targets) g = ap (λ r. r >>= λ ts. Ok (kind.Measure m ts)) (targets_again targets g)
kind_again tag (kind.Reset axis qubits) g = ap (λ r. r >>= λ qs. Ok (kind.Reset axis qs)) (qubits_again qubits g)
kind_again tag (kind.MeasureProducts products) g = ap (λ r. r >>= λ ps. Ok (kind.MeasureProducts ps)) (products_again products g)
kind_again tag (kind.Detector located) g =
    ap (λ r. r >>= λ cs. each lookback_of (words (spaced lookback_text located.1)) >>= λ ls. Ok (kind.Detector (cs, ls))) (coordinates_again located.0 g.0)
    ∙ ap (λ r. r >>= λ ls. Ok (kind.Detector (located.0, ls))) (lookbacks_again located.1 g.1)
kind_again tag (kind.ObservableInclude j ks) g =
    ap (λ r. r >>= λ digits. each lookback_of (words (spaced lookback_text ks)) >>= λ ls. observable_of digits >>= λ i. Ok (kind.ObservableInclude i ls)) (number_again j g.0)
    ∙ ap (λ r. r >>= λ ls. observable_of (decimal j) >>= λ i. Ok (kind.ObservableInclude i ls)) (lookbacks_again ks g.1)
    ∙ ap (λ r. r >>= λ i. Ok (kind.ObservableInclude i ks)) (observable_again j g.0)
kind_again tag kind.Tick g = refl
kind_again tag (kind.QubitCoords located) g =
    ap (λ r. r >>= λ cs. each qubit_of (words (spaced decimal located.1)) >>= λ qs. Ok (kind.QubitCoords (cs, qs))) (coordinates_again located.0 g.0)
    ∙ ap (λ r. r >>= λ qs. Ok (kind.QubitCoords (located.0, qs))) (qubits_again located.1 g.1)
kind_again tag (kind.ShiftCoords coordinates) g = ap (λ r. r >>= λ cs. Ok (kind.ShiftCoords cs)) (coordinates_again coordinates g)

-- a content that begins with a letter means what its shape means
pub letter_means : (c : ℕ) (rest : List ℕ) → is_letter c ≡ true → meaning_of (c ∷ rest) ≡ (shape_of (c ∷ rest) >>= shape_meaning)
unfolding meaning_of
letter_means c rest e = passed (length (c ∷ rest) == 0) _ _ (some_bytes c rest) ∙ passed (is_close (c ∷ rest)) _ _ (no_close c rest e)
  where
    some_bytes : (x : ℕ) (xs : List ℕ) → (length (x ∷ xs) == 0) ≡ false
    some_bytes x xs = grind arith

    no_close : (x : ℕ) (xs : List ℕ) → is_letter x ≡ true → is_close (x ∷ xs) ≡ false
    no_close x xs e =
        let other : (x == 125) ≡ false = grind (arith, nat_tests) in
        ap (λ b. (length (x ∷ xs) == 1) && b) other ∙ never (length (x ∷ xs) == 1)
      where
        never : (b : Bool) → (b && false) ≡ false
        never true = refl
        never false = refl

pub headed_means : (name tag rest : List ℕ) → IsName name → meaning_of (head_text name tag ++ rest) ≡ (shape_of (head_text name tag ++ rest) >>= shape_meaning)
headed_means name tag rest n =
    let front : head_text name tag ++ rest ≡ n.first ∷ ((n.rest ++ tag_text tag) ++ rest) = ap (λ l. (l ++ tag_text tag) ++ rest) n.front in
    ap meaning_of front ∙ letter_means n.first ((n.rest ++ tag_text tag) ++ rest) n.letter ∙ ap (λ l. shape_of l >>= shape_meaning) (sym front)

pub no_braces : IsClear is_brace
no_braces = record { digits = digit_no; marks = (refl, (refl, (refl, (refl, (refl, (refl, (refl, (refl, (refl, (refl, (refl, tt))))))))))); space = refl }
  where
    digit_no : (b : ℕ) → is_digit b ≡ true → is_brace b ≡ false
    digit_no b e = grind (arith, nat_tests)

pub operation_again : (op : Operation) → IsGoodKind op.kind → IsTag op.tag → meaning_of (operation_text op) ≡ Ok (line.Operation op)
unfolding named_line
operation_again op g t =
    let k = op.kind in
    let s = shape_for op.tag k in
    let targets = kind_targets k g in
    headed_means (kind_name k) op.tag _ (kind_is k)
    ∙ ap (λ r. r >>= shape_meaning) (shape_again (kind_name k) op.tag (kind_arguments k) (targets_text k) (kind_is k) (tag_lacks op.tag t).2 (kind_coordinates k g) targets.can_follow (targets.lacks is_brace no_braces))
    ∙ ap (λ r. r >>= named_line s) (kind_name_again k)
    ∙ ap (λ r. r >>= λ kind. without_open s (Ok (line.Operation (record { kind = kind; tag = op.tag })))) (kind_again op.tag k g)

-- the only word is the count
count_word : (n : ℕ) → n < 2 ^ 64 → words (codes " " ++ (decimal n ++ codes " ")) ≡ decimal n ∷ []
count_word n wide =
    ap (filter is_some_word)
    (slice_split-cons_yes is_spacing 32 (decimal n ++ codes " ") refl
    ∙ ap (λ l. [] ∷ l) (split_lacking is_spacing (decimal n) 32 [] (decimal_word n wide).0 refl))
    ∙ ap (λ b. if b then decimal n ∷ [] else []) (decimal_some n wide)

pub open_again : (n : ℕ) (tag : List ℕ) → IsCount n → IsTag tag → meaning_of (open_text n tag) ≡ Ok (Open n tag)
unfolding named_line block_of
open_again n tag c t =
    let wide : n < 2 ^ 64 = omega (arith, c.1) in
    let front = codes " " ++ (decimal n ++ codes " ") in
    let s : Shape = record { name = codes "REPEAT"; tag = tag; arguments = []; targets = front; opens = true } in
    let flat : codes " " ++ (decimal n ++ codes " {") ≡ front ++ 123 ∷ [] = ap (λ l. 32 ∷ l) (sym (append_assoc (decimal n) (codes " ") (123 ∷ []))) in
    let lacks : Lacks is_brace front = (refl, lacks-append is_brace (decimal n) (codes " ") (digits_lack is_brace (decimal n) no_braces.digits (decimal_digits n wide)) (refl, tt)) in
    headed_means (codes "REPEAT") tag _ repeat_is
    ∙ ap (λ l. shape_of (head_text (codes "REPEAT") tag ++ l) >>= shape_meaning) flat
    ∙ ap (λ r. r >>= shape_meaning) (open_shape_again (codes "REPEAT") tag front repeat_is (tag_lacks tag t).2 refl lacks)
    ∙ ap (λ r. r >>= named_line s) repeat_again
    ∙ ap (λ ws. each count_of ws >>= λ counts. opening_of s (only_count counts)) (count_word n wide)
    ∙ ap (λ r. (r >>= λ first. Ok (first ∷ [])) >>= λ counts. opening_of s (only_count counts)) (count_again n c)

pub close_again : meaning_of (codes "}") ≡ Ok Close
unfolding meaning_of
close_again = refl

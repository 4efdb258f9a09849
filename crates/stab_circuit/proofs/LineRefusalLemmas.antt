-- Which refusals a line can have.
use Rattle.stab_circuit.proofs.Names.{◌≡◌, refl, ℕ, ◌==◌, List, [], ◌∷◌, Bool, true, false, length, drop, Option, None, Some, Result, Ok, Err, if◌then◌else◌, Refusal, Gate, Axis, Control, Factor, Measurement, Instruction, Name, Blank, Close, ◌>>=◌, each, slice_split, Shape, is_byte, starts_with_byte, bracketed, after_tag, shaped, shape_of, words, arguments_of, first_named, instruction_named, name_of, gate_named, controlled_named, measurement_named, other_named, first_axis, unmarked, factor_on, factor_of, on_different, product_of, control_of, by_turns, pair_of, paired, controlled_of, qubit_of, measure_target_of, lookback_of, count_of, pairs_of, coordinate_of, one_argument, number_of, observable_of, targets_alone, coordinates_of, kind_of, observable_include_of, only_count, opening_of, block_of, named_line, shape_meaning, is_close, meaning_of, is_of_line}
use Rattle.stab_instructions.specs.declared.control.Control.TheVariants as control
use Rattle.stab_instructions.specs.declared.name.Instruction.TheVariants as instruction
use Rattle.stab_instructions.specs.declared.name.Name.TheVariants as name

-- if it is refused, a line can be refused in this way
abbrev pub OfLine : {A : Type 0} → Result A Refusal → Type 0
OfLine (Ok x) = Unit {0}
OfLine (Err r) = is_of_line r ≡ true

pub record IsOfLine {A : Type 0} (x : Result A Refusal) : Type 0 where
  pub holds : OfLine x

pub good : {A : Type 0} (x : A) → IsOfLine (Ok x)
good x = record { holds = tt }

pub bad : {A : Type 0} (r : Refusal) → is_of_line r ≡ true → IsOfLine {A = A} (Err r)
bad r e = record { holds = e }

bind_line : {A B : Type 0} (x : Result A Refusal) (f : A → Result B Refusal) → IsOfLine x → ((a : A) → IsOfLine (f a)) → IsOfLine (x >>= f)
bind_line (Ok a) f p q = q a
bind_line (Err r) f p q = record { holds = p.holds }

pub if_line : {A : Type 0} (b : Bool) {x y : Result A Refusal} → IsOfLine x → IsOfLine y → IsOfLine (if b then x else y)
if_line true p q = p
if_line false p q = q

each_line : {A X : Type 0} (f : A → Result X Refusal) → ((a : A) → IsOfLine (f a)) → (as' : List A) → IsOfLine (each f as')
each_line f p [] = good _
each_line f p (a ∷ more) = bind_line (f a) (λ first. each f more >>= λ rest. Ok (first ∷ rest)) (p a) (λ first. bind_line (each f more) (λ rest. Ok (first ∷ rest)) (each_line f p more) (λ rest. good _))

bracketed_line : (opening closing : ℕ) (bs : List ℕ) → IsOfLine (bracketed opening closing bs)
unfolding bracketed
bracketed_line opening closing bs = if_line _ (if_line _ (good _) (bad _ refl)) (good _)

shape_line : (content : List ℕ) → IsOfLine (shape_of content)
unfolding shape_of
shape_line content = bind_line _ (after_tag content) (bracketed_line 91 93 _) (λ tag. bind_line _ (shaped content tag.0) (bracketed_line 40 41 tag.1) (λ arguments. if_line _ (good _) (bad _ refl)))

first_line : (a : Option Gate) (b : Option Axis) (c : Option Measurement) (d : Option Instruction) → IsOfLine (first_named a b c d)
first_line (Some a) b c d = good _
first_line None (Some b) c d = good _
first_line None None (Some c) d = good _
first_line None None None (Some d) = good _
first_line None None None None = bad _ refl

name_line : (text : List ℕ) → IsOfLine (name_of text)
unfolding name_of instruction_named
name_line text = if_line _ (good _) (bind_line _ _ (first_line (gate_named text) (controlled_named text) (measurement_named text) (other_named text)) (λ i. good _))

qubit_line : (word : List ℕ) → IsOfLine (qubit_of word)
unfolding qubit_of
qubit_line word = if_line _ (bad _ refl) (if_line _ (good _) (bad _ refl))

measure_line : (word : List ℕ) → IsOfLine (measure_target_of word)
unfolding measure_target_of
measure_line word = if_line _ (bind_line _ _ (qubit_line (drop 1 word)) (λ q. good _)) (bind_line _ _ (qubit_line word) (λ q. good _))

factor_on_line : (inverted : Bool) (digits : List ℕ) (axis : Option Axis) → IsOfLine (factor_on inverted digits axis)
factor_on_line inverted digits None = bad _ refl
factor_on_line inverted digits (Some axis) = bind_line _ _ (qubit_line digits) (λ q. good _)

factor_line : (word : List ℕ) → IsOfLine (factor_of word)
unfolding factor_of
factor_line word = factor_on_line (starts_with_byte word 33) (drop 1 (unmarked word)) (first_axis (unmarked word))

different_line : (factors : List Factor) → IsOfLine (on_different factors)
different_line factors = if_line _ (bad _ refl) (good _)

product_line : (word : List ℕ) → IsOfLine (product_of word)
unfolding product_of
product_line word = if_line _ (bind_line _ on_different (each_line factor_of factor_line (slice_split (is_byte 42) word)) different_line) (bad _ refl)

lookback_line : (word : List ℕ) → IsOfLine (lookback_of word)
unfolding lookback_of
lookback_line word = if_line _ (good _) (bad _ refl)

count_line : (word : List ℕ) → IsOfLine (count_of word)
unfolding count_of
count_line word = if_line _ (bad _ refl) (if_line _ (good _) (good _))

pairs_line : (qubits : List ℕ) → IsOfLine (pairs_of qubits)
pairs_line [] = good _
pairs_line (a ∷ []) = bad _ refl
pairs_line (a ∷ b ∷ rest) = if_line _ (bad _ refl) (bind_line (pairs_of rest) _ (pairs_line rest) (λ more. good _))

control_line : (word : List ℕ) → IsOfLine (control_of word)
unfolding control_of
control_line word = if_line _ (bind_line _ _ (lookback_line word) (λ k. good _)) (bind_line _ _ (qubit_line word) (λ q. good _))

turns_line : (targets : List (List ℕ)) → IsOfLine (by_turns targets)
turns_line [] = good _
turns_line (a ∷ []) = bind_line _ _ (control_line a) (λ c. bad _ refl)
turns_line (a ∷ b ∷ rest) = bind_line _ _ (control_line a) (λ c. bind_line _ _ (qubit_line b) (λ q. bind_line (by_turns rest) _ (turns_line rest) (λ more. good _)))

pair_line : (c : Control) (q : ℕ) → IsOfLine (pair_of c q)
pair_line (control.Qubit a) q = if_line _ (bad _ refl) (good _)
pair_line (control.Record k) q = good _

controlled_line : (targets : List (List ℕ)) → IsOfLine (controlled_of targets)
controlled_line targets = bind_line (by_turns targets) (each paired) (turns_line targets) (λ ts. each_line paired (λ t. pair_line t.control t.qubit) ts)

coordinate_line : (argument : List ℕ) → IsOfLine (coordinate_of argument)
unfolding coordinate_of
coordinate_line argument = if_line _ (good _) (bad _ refl)

argument_line : (arguments : List (List ℕ)) → IsOfLine (one_argument arguments)
argument_line [] = bad _ refl
argument_line (a ∷ []) = good _
argument_line (a ∷ b ∷ more) = bad _ refl

number_line : (arguments : List (List ℕ)) → IsOfLine (number_of arguments)
unfolding number_of
number_line arguments = bind_line _ _ (argument_line arguments) (λ argument. if_line _ (good _) (bad _ refl))

observable_line : (digits : List ℕ) → IsOfLine (observable_of digits)
unfolding observable_of
observable_line digits = if_line _ (good _) (bad _ refl)

alone_line : {X : Type 0} (target : List ℕ → Result X Refusal) (s : Shape) → ((word : List ℕ) → IsOfLine (target word)) → IsOfLine (targets_alone target s)
alone_line target s p = if_line _ (each_line target p _) (bad _ refl)

coordinates_line : (s : Shape) → IsOfLine (coordinates_of s)
coordinates_line s = each_line coordinate_of coordinate_line (arguments_of s.arguments)

lookbacks_line : (s : Shape) → IsOfLine (each lookback_of (words s.targets))
lookbacks_line s = each_line lookback_of lookback_line (words s.targets)

include_line : (s : Shape) → IsOfLine (observable_include_of s)
unfolding observable_include_of
include_line s =
    bind_line _ _ (number_line (arguments_of s.arguments))
    (λ digits. bind_line _ _ (lookbacks_line s) (λ ks. bind_line _ _ (if_line s.opens (bad _ refl) (observable_line digits)) (λ j. good _)))

kind_line : (i : Instruction) (s : Shape) → IsOfLine (kind_of i s)
unfolding kind_of
kind_line (instruction.Gate g) s = bind_line _ _ (alone_line qubit_of s qubit_line) (λ qubits. good _)
kind_line (instruction.Controlled axis) s = bind_line _ _ (if_line _ (controlled_line (words s.targets)) (bad _ refl)) (λ pairs. good _)
kind_line instruction.Swap s = bind_line _ _ (alone_line qubit_of s qubit_line) (λ qubits. bind_line _ _ (pairs_line qubits) (λ pairs. good _))
kind_line (instruction.Measure m) s = bind_line _ _ (alone_line measure_target_of s measure_line) (λ targets. good _)
kind_line (instruction.Reset axis) s = bind_line _ _ (alone_line qubit_of s qubit_line) (λ qubits. good _)
kind_line instruction.MeasureProducts s = bind_line _ _ (alone_line product_of s product_line) (λ products. good _)
kind_line instruction.Detector s = bind_line _ _ (coordinates_line s) (λ coordinates. bind_line _ _ (lookbacks_line s) (λ ks. good _))
kind_line instruction.ObservableInclude s = include_line s
kind_line instruction.Tick s = if_line _ (if_line _ (good _) (bad _ refl)) (bad _ refl)
kind_line instruction.QubitCoords s = bind_line _ _ (coordinates_line s) (λ coordinates. bind_line _ _ (each_line qubit_of qubit_line (words s.targets)) (λ qubits. good _))
kind_line instruction.ShiftCoords s = bind_line _ _ (coordinates_line s) (λ coordinates. if_line _ (good _) (bad _ refl))

opened_line : (s : Shape) (o : Option ℕ) → IsOfLine (opening_of s o)
opened_line s (Some n) = if_line _ (good _) (bad _ refl)
opened_line s None = bad _ refl

named_line_line : (s : Shape) (n : Name) → IsOfLine (named_line s n)
unfolding named_line block_of
named_line_line s name.Repeat = bind_line _ _ (alone_line count_of s count_line) (λ counts. opened_line s (only_count counts))
named_line_line s (name.Instruction i) = bind_line _ _ (kind_line i s) (λ kind. if_line _ (bad _ refl) (good _))

named_shape_line : (s : Shape) → IsOfLine (shape_meaning s)
named_shape_line s = bind_line (name_of s.name) (named_line s) (name_line s.name) (named_line_line s)

pub meaning_line : (content : List ℕ) → IsOfLine (meaning_of content)
unfolding meaning_of
meaning_line content = if_line (length content == 0) (good Blank) (if_line (is_close content) (good Close) (bind_line (shape_of content) shape_meaning (shape_line content) named_shape_line))

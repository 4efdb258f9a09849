-- Errors: what goes wrong at once in a circuit, as single errors that are put in as gates, and which errors a circuit has.
-- Source: this project's own; products of two letters are those of noise channels on two qubits, in the order of C. Gidney, Stim: a
-- fast stabilizer circuit simulator (2021).
use Rattle.std.specs.Prelude.{ℕ, ◌+◌, zero, suc, Bool, true, false, List, [], ◌∷◌, ◌++◌, length, map, codes, bytes_eq, if◌then◌else◌}
use Rattle.std.specs.List.{flat_map}
use Rattle.stab_gates.specs.declared.letter.Letter.{Letter}
use Rattle.stab_gates.specs.declared.letter.Letter.TheVariants.{I, X, Y, Z}
use Rattle.stab_gates.specs.declared.gate.Gate.{Gate}
use Rattle.stab_gates.specs.declared.gate.Gate.TheVariants as gate
use Rattle.stab_instructions.specs.declared.operation.Operation.{Operation}
use Rattle.stab_instructions.specs.declared.operation.Kind.{Kind}
use Rattle.stab_instructions.specs.declared.operation.Kind.TheVariants as kind
use Rattle.stab_instructions.specs.declared.product.Factor.{Factor}
use Rattle.stab_instructions.specs.Axes.{letter_of}
use Rattle.stab_items.specs.Items.{Items, done, next, block}
use Rattle.stab_items.specs.Steps.{Step, one, two, controlled, collapse, product, detector, observable, steps_of, unroll, makes}
use Rattle.stab_run.specs.Runs.{flip_of}
use Rattle.stab_regions.specs.SingleErrors.{in_front, following, SingleError, single_error_on}
use Rattle.stab_jobs.specs.declared.job.ErrorLetters.{ErrorLetters}
use Rattle.stab_jobs.specs.declared.job.ErrorLetters.TheVariants.{All, XAndZ}

-- an error: a letter at a site; letters at two sites, both at once; or the record of this number by itself: a letter in front of its
-- measurement flips the outcome, and if the qubit isn't reset the same letter after it takes the flip of the qubit back
pub data Error : Type 0 where
  letter : SingleError → Error
  letters : (first second : SingleError) → Error
  wrong_record : (number : ℕ) → (flip : SingleError) → (back : List SingleError) → Error

-- the single errors that go wrong at once
abbrev pub single_errors_in : Error → List SingleError
single_errors_in (letter f) = f ∷ []
single_errors_in (letters f g) = f ∷ g ∷ []
single_errors_in (wrong_record number f back) = f ∷ back

-- the first of them, if the error is said to be
abbrev pub first_single_error : Error → SingleError
first_single_error (letter f) = f
first_single_error (letters f g) = f
first_single_error (wrong_record number f back) = f

-- the letters of errors on one qubit
abbrev pub letters_asked : ErrorLetters → List Letter
letters_asked All = X ∷ Y ∷ Z ∷ []
letters_asked XAndZ = X ∷ Z ∷ []

-- the products of errors on two qubits: all sixteen except that of I and I; or those that have only X or only Z
abbrev pub pairs_asked : ErrorLetters → List (Letter × Letter)
pairs_asked All =
    (I, X) ∷ (I, Y) ∷ (I, Z) ∷ (X, I) ∷ (X, X) ∷ (X, Y) ∷ (X, Z)
    ∷ (Y, I) ∷ (Y, X) ∷ (Y, Y) ∷ (Y, Z) ∷ (Z, I) ∷ (Z, X) ∷ (Z, Y) ∷ (Z, Z) ∷ []
pairs_asked XAndZ = (I, X) ∷ (I, Z) ∷ (X, I) ∷ (X, X) ∷ (Z, I) ∷ (Z, Z) ∷ []

-- each of some letters, at a site that takes a letter
abbrev pub each_letter : List Letter → (Letter → SingleError) → List Error
each_letter ls at = map (λ l. letter (at l)) ls

-- a product at two sites, in which I is no single error
abbrev pub product_at : (first second : Letter → SingleError) → (l m : Letter) → Error
product_at first second I m = letter (second m)
product_at first second l I = letter (first l)
product_at first second l m = letters (first l) (second m)

-- each product that is asked for, at two sites
abbrev pub each_product : ErrorLetters → (first second : Letter → SingleError) → List Error
each_product ls first second = map (λ p. product_at first second p.0 p.1) (pairs_asked ls)

-- errors everywhere

-- the wrong record of a product, by its first factor
abbrev pub wrong_product : (t m : ℕ) → List Factor → List Error
wrong_product t m [] = []
wrong_product t m (f ∷ fs) =
    wrong_record m (single_error_on t (in_front f.qubit) (flip_of (letter_of f.letter))) (single_error_on t (following f.qubit) (flip_of (letter_of f.letter)) ∷ []) ∷ []

-- the errors at step number t, with m records before it: after a gate and a reset; in front of what is measured, and its record
abbrev pub errors_at : ErrorLetters → (t m : ℕ) → Step → List Error
errors_at ls t m (one g q) = each_letter (letters_asked ls) (single_error_on t (following q))
errors_at ls t m (two g a b) = each_product ls (single_error_on t (following a)) (single_error_on t (following b))
errors_at ls t m (controlled l k q) = each_letter (letters_asked ls) (single_error_on t (following q))
errors_at ls t m (collapse l q false inverted resets) = each_letter (letters_asked ls) (single_error_on t (following q))
errors_at ls t m (collapse l q true inverted true) =
    each_letter (letters_asked ls) (single_error_on t (in_front q))
    ++ wrong_record m (single_error_on t (in_front q) (flip_of l)) [] ∷ each_letter (letters_asked ls) (single_error_on t (following q))
errors_at ls t m (collapse l q true inverted false) =
    each_letter (letters_asked ls) (single_error_on t (in_front q))
    ++ wrong_record m (single_error_on t (in_front q) (flip_of l)) (single_error_on t (following q) (flip_of l) ∷ []) ∷ []
errors_at ls t m (product factors inverted) =
    flat_map (λ f. each_letter (letters_asked ls) (single_error_on t (in_front f.qubit))) factors ++ wrong_product t m factors
errors_at ls t m (detector ks) = []
errors_at ls t m (observable j ks) = []

-- the errors at steps, of which the first is number t and has m records before it
abbrev pub errors_from : ErrorLetters → (t m : ℕ) → List Step → List Error
errors_from ls t m [] = []
errors_from ls t m (x ∷ xs) = errors_at ls t m x ++ errors_from ls (t + 1) (m + makes x) xs

-- errors where they are marked

-- an instruction I: its tag, its targets, and the number of its first step
pub record Marks : Type 0 where
  pub tag : List ℕ
  pub qubits : List ℕ
  pub step : ℕ

-- this many rounds of instructions
abbrev pub instruction_rounds : ℕ → List Operation → List Operation
instruction_rounds zero ops = []
instruction_rounds (suc n) ops = ops ++ instruction_rounds n ops

-- the instructions as they are carried out, each block's as often as it counts
abbrev pub instructions : Items → List Operation
instructions done = []
instructions (next op rest) = op ∷ instructions rest
instructions (block count tag body rest) = instruction_rounds count (instructions body) ++ instructions rest

-- whether a gate does nothing
abbrev pub is_idle : Gate → Bool
is_idle gate.I = true
is_idle g = false

-- what an instruction on these targets marks, if it has any
abbrev pub marks_of : ℕ → (tag qubits : List ℕ) → List Marks
marks_of t tag [] = []
marks_of t tag (q ∷ qs) = record { tag = tag; qubits = q ∷ qs; step = t } ∷ []

-- what an instruction marks: the targets of a gate that does nothing
abbrev pub marks_by : ℕ → (tag : List ℕ) → Kind → List Marks
marks_by t tag (kind.Gate g qubits) = if is_idle g then marks_of t tag qubits else []
marks_by t tag k = []

-- what instructions mark, of which the first begins with step number t
abbrev pub marks_from : ℕ → List Operation → List Marks
marks_from t [] = []
marks_from t (op ∷ ops) = marks_by t op.tag op.kind ++ marks_from (t + length (steps_of op.kind)) ops

-- Y, if errors are made of it
abbrev pub y_asked : ErrorLetters → List Letter
y_asked All = Y ∷ []
y_asked XAndZ = []

-- the letters that a tag leaves: X, Y or Z alone, or X and Z; any other leaves all
abbrev pub letters_left : ErrorLetters → (tag : List ℕ) → List Letter
letters_left ls tag =
    if bytes_eq tag (codes "X") then X ∷ []
    else if bytes_eq tag (codes "Y") then y_asked ls
    else if bytes_eq tag (codes "Z") then Z ∷ []
    else if bytes_eq tag (codes "XZ") then X ∷ Z ∷ []
    else letters_asked ls

-- letters at each of some targets, the first of which is at step number t
abbrev pub each_target : List Letter → ℕ → (qubits : List ℕ) → List Error
each_target ls t [] = []
each_target ls t (q ∷ qs) = each_letter ls (single_error_on t (in_front q)) ++ each_target ls (t + 1) qs

-- products on each two targets, one pair after the other; a last target without another has letters by itself
abbrev pub each_two_targets : ErrorLetters → ℕ → (qubits : List ℕ) → List Error
each_two_targets ls t [] = []
each_two_targets ls t (q ∷ []) = each_letter (letters_asked ls) (single_error_on t (in_front q))
each_two_targets ls t (a ∷ b ∷ qs) = each_product ls (single_error_on t (in_front a)) (single_error_on (t + 1) (in_front b)) ++ each_two_targets ls (t + 2) qs

-- the errors that an instruction marks
abbrev pub errors_marked : ErrorLetters → Marks → List Error
errors_marked ls m =
    if bytes_eq m.tag (codes "pairs") then each_two_targets ls m.step m.qubits else each_target (letters_left ls m.tag) m.step m.qubits

-- the errors of a circuit: everywhere, or where it marks them
abbrev pub errors_of : (everywhere : Bool) → ErrorLetters → Items → List Error
errors_of true ls items = errors_from ls 0 0 (unroll items)
errors_of false ls items = flat_map (errors_marked ls) (marks_from 0 (instructions items))

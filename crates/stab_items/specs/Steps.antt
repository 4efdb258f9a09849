-- Steps: the unrolled circuit, and what has to hold of it.
-- Source: Stim's circuit file format, for what an instruction does to its targets one after another, and for rec[-k]. The
-- limits are this project's own.
use Rattle.std.specs.Prelude.{◌≡◌, ◌≢◌, ℕ, ◌+◌, zero, suc, max, Bool, true, false, ◌||◌, nat_lt, List, [], ◌∷◌, ◌++◌, length, map, if◌then◌else◌, Option, Some, None, Result, Ok, Err}
use Rattle.std.specs.List.{list_any}
use Rattle.stab_gates.specs.declared.letter.Letter.{Letter}
use Rattle.stab_gates.specs.Letters.{◌⊕◌}
use Rattle.stab_io.specs.declared.refusal.Refusal.{Refusal}
use Rattle.stab_io.specs.declared.refusal.Refusal.TheVariants.{QubitOutOfRange, LookbackTooFar, TooManySteps}
use Rattle.stab_io.specs.declared.refusal.Fault.{Fault}
use Rattle.stab_io.specs.Refusals.{whole}
use Rattle.stab_gates.specs.declared.gate.Gate.{Gate}
use Rattle.stab_gates.specs.declared.gate.PairGate.{PairGate}
use Rattle.stab_gates.specs.declared.gate.PairGate.TheVariants as gate
use Rattle.stab_instructions.specs.declared.axis.Axis.{Axis}
use Rattle.stab_instructions.specs.declared.axis.Axis.TheVariants as axis
use Rattle.stab_instructions.specs.declared.control.ControlledPair.{ControlledPair}
use Rattle.stab_instructions.specs.declared.control.ControlledPair.TheVariants as pair
use Rattle.stab_instructions.specs.declared.product.Factor.{Factor}
use Rattle.stab_instructions.specs.declared.range.MeasureTarget.{MeasureTarget}
use Rattle.stab_instructions.specs.declared.operation.Measurement.{Measurement}
use Rattle.stab_instructions.specs.declared.operation.Kind.{Kind}
use Rattle.stab_instructions.specs.declared.operation.Kind.TheVariants as kind
use Rattle.stab_instructions.specs.Axes.{letter_of}
use Rattle.stab_instructions.specs.Targets.{pair_qubits}
use Rattle.stab_instructions.specs.Products.{names_twice}
use Rattle.stab_items.specs.Items.{Items, OneItem, done, next, block, operation, repeat}

-- a step of an unrolled circuit
pub data Step : Type 0 where
  one : Gate → (qubit : ℕ) → Step
  two : PairGate → (first second : ℕ) → Step
  controlled : Letter → (lookback qubit : ℕ) → Step
  collapse : Letter → (qubit : ℕ) → (recorded inverted resets : Bool) → Step
  product : (factors : List Factor) → (inverted : Bool) → Step
  detector : (lookbacks : List ℕ) → Step
  observable : (number : ℕ) → (lookbacks : List ℕ) → Step

-- the step of a measured target
abbrev pub measured : Measurement → MeasureTarget → Step
measured m t = collapse (letter_of m.axis) t.qubit true t.inverted m.resets

-- whether a product's record is inverted: whether an odd number of its factors have !
abbrev pub is_inverted : List Factor → Bool
is_inverted [] = false
is_inverted (f ∷ fs) = f.inverted ⊕ is_inverted fs

-- the step of a measured product
abbrev pub measured_product : List Factor → Step
measured_product factors = product factors (is_inverted factors)

-- the gate that applies X, Y or Z under the control of a qubit
abbrev pub controlled_gate : Axis → PairGate
controlled_gate axis.X = gate.Cx
controlled_gate axis.Y = gate.Cy
controlled_gate axis.Z = gate.Cz

-- the step of a pair of a controlled gate
abbrev pub controlled_step : Axis → ControlledPair → Step
controlled_step a (pair.Qubits p) = two (controlled_gate a) p.0 p.1
controlled_step a (pair.Record q k) = controlled (letter_of a) k q

-- the steps of one instruction
abbrev pub steps_of : Kind → List Step
steps_of (kind.Gate g qubits) = map (one g) qubits
steps_of (kind.Controlled axis pairs) = map (controlled_step axis) pairs
steps_of (kind.Swap pairs) = map (λ pair. two gate.Swap pair.0 pair.1) pairs
steps_of (kind.Measure m targets) = map (measured m) targets
steps_of (kind.Reset axis qubits) = map (λ q. collapse (letter_of axis) q false false true) qubits
steps_of (kind.MeasureProducts products) = map measured_product products
steps_of (kind.Detector located) = detector located.1 ∷ []
steps_of (kind.ObservableInclude j ks) = observable j ks ∷ []
steps_of kind.Tick = []
steps_of (kind.QubitCoords located) = []
steps_of (kind.ShiftCoords coordinates) = []

-- this many rounds of steps
abbrev pub rounds : ℕ → List Step → List Step
rounds zero steps = []
rounds (suc n) steps = steps ++ rounds n steps

-- the steps of the items, each block's as often as it counts
abbrev pub unroll : Items → List Step
unroll done = []
unroll (next op rest) = steps_of op.kind ++ unroll rest
unroll (block count tag body rest) = rounds count (unroll body) ++ unroll rest

-- the lookbacks of an instruction that is a detector
abbrev pub detector_in : Kind → Option (List ℕ)
detector_in (kind.Detector located) = Some located.1
detector_in (kind.Gate g qubits) = None
detector_in (kind.Controlled axis pairs) = None
detector_in (kind.Swap pairs) = None
detector_in (kind.Measure m targets) = None
detector_in (kind.Reset axis qubits) = None
detector_in (kind.MeasureProducts products) = None
detector_in (kind.ObservableInclude j ks) = None
detector_in kind.Tick = None
detector_in (kind.QubitCoords located) = None
detector_in (kind.ShiftCoords coordinates) = None

-- the lookbacks of an item that is a detector
abbrev pub detector_of : OneItem → Option (List ℕ)
detector_of (operation op) = detector_in op.kind
detector_of (repeat count tag body) = None

-- how many records a step makes
abbrev pub makes : Step → ℕ
makes (collapse l q true inverted resets) = 1
makes (collapse l q false inverted resets) = 0
makes (one g q) = 0
makes (two g a b) = 0
makes (controlled l k q) = 0
makes (product factors inverted) = 1
makes (detector ks) = 0
makes (observable j ks) = 0

-- how many records the steps make
abbrev pub records_of : List Step → ℕ
records_of [] = 0
records_of (s ∷ ss) = makes s + records_of ss

-- whether a step is a detector
abbrev pub is_detector : Step → Bool
is_detector (detector ks) = true
is_detector (one g q) = false
is_detector (two g a b) = false
is_detector (controlled l k q) = false
is_detector (collapse l q recorded inverted resets) = false
is_detector (product factors inverted) = false
is_detector (observable j ks) = false

-- how many detectors a step has
abbrev pub detectors_in : Step → ℕ
detectors_in x = if is_detector x then 1 else 0

-- how many detectors steps have
abbrev pub detectors_of : List Step → ℕ
detectors_of [] = 0
detectors_of (x ∷ xs) = if is_detector x then 1 + detectors_of xs else detectors_of xs

-- a gate on two qubits has two different ones, and so have the factors of a product
abbrev pub HasDistinctQubits : Step → Type 0
HasDistinctQubits (one g q) = Unit {0}
HasDistinctQubits (two g a b) = b ≢ a
HasDistinctQubits (controlled l k q) = Unit {0}
HasDistinctQubits (collapse l q recorded inverted resets) = Unit {0}
HasDistinctQubits (product factors inverted) = names_twice factors ≡ false
HasDistinctQubits (detector ks) = Unit {0}
HasDistinctQubits (observable j ks) = Unit {0}

-- how far back a step looks: the numbers k of its rec[-k]
abbrev pub lookbacks : Step → List ℕ
lookbacks (detector ks) = ks
lookbacks (observable j ks) = ks
lookbacks (one g q) = []
lookbacks (two g a b) = []
lookbacks (controlled l k q) = k ∷ []
lookbacks (product factors inverted) = []
lookbacks (collapse l q recorded inverted resets) = []

-- a step looks no further back than the newest m records
abbrev pub LooksWithin : ℕ → Step → Type 0
LooksWithin m x = list_any (nat_lt m) (lookbacks x) ≡ false

-- whether some step looks further back than there are records, of which m are there before
abbrev pub looks_too_far : ℕ → List Step → Bool
looks_too_far m [] = false
looks_too_far m (s ∷ ss) = list_any (nat_lt m) (lookbacks s) || looks_too_far (m + makes s) ss

-- the qubits of measured targets
abbrev pub target_qubits : List MeasureTarget → List ℕ
target_qubits targets = map (λ t. t.qubit) targets

-- the qubits of the pairs of a controlled gate
abbrev pub controlled_qubits : List ControlledPair → List ℕ
controlled_qubits [] = []
controlled_qubits (pair.Qubits p ∷ pairs) = p.0 ∷ p.1 ∷ controlled_qubits pairs
controlled_qubits (pair.Record q k ∷ pairs) = q ∷ controlled_qubits pairs

-- the qubits of factors
abbrev pub factor_qubits : List Factor → List ℕ
factor_qubits factors = map (λ f. f.qubit) factors

-- the qubits of products
abbrev pub product_qubits : List (List Factor) → List ℕ
product_qubits [] = []
product_qubits (factors ∷ products) = factor_qubits factors ++ product_qubits products

-- the qubits that an instruction names
abbrev pub named_qubits : Kind → List ℕ
named_qubits (kind.Gate g qubits) = qubits
named_qubits (kind.Controlled axis pairs) = controlled_qubits pairs
named_qubits (kind.Swap pairs) = pair_qubits pairs
named_qubits (kind.Measure m targets) = target_qubits targets
named_qubits (kind.Reset axis qubits) = qubits
named_qubits (kind.MeasureProducts products) = product_qubits products
named_qubits (kind.QubitCoords located) = located.1
named_qubits (kind.Detector located) = []
named_qubits (kind.ObservableInclude j ks) = []
named_qubits kind.Tick = []
named_qubits (kind.ShiftCoords coordinates) = []

-- the observables that an instruction names
abbrev pub named_observables : Kind → List ℕ
named_observables (kind.ObservableInclude j ks) = j ∷ []
named_observables (kind.Gate g qubits) = []
named_observables (kind.Controlled axis pairs) = []
named_observables (kind.Swap pairs) = []
named_observables (kind.Measure m targets) = []
named_observables (kind.Reset axis qubits) = []
named_observables (kind.MeasureProducts products) = []
named_observables (kind.Detector located) = []
named_observables kind.Tick = []
named_observables (kind.QubitCoords located) = []
named_observables (kind.ShiftCoords coordinates) = []

-- one more than the greatest of the numbers, or 0
abbrev pub past : List ℕ → ℕ
past [] = 0
past (n ∷ ns) = max (n + 1) (past ns)

-- one more than the greatest number that any instruction names, or 0
abbrev pub past_named : (Kind → List ℕ) → Items → ℕ
past_named named done = 0
past_named named (next op rest) = max (past (named op.kind)) (past_named named rest)
past_named named (block count tag body rest) = max (past_named named body) (past_named named rest)

-- how many qubits the items have
abbrev pub qubits_of : Items → ℕ
qubits_of items = past_named named_qubits items

-- how many observables the items have
abbrev pub observables_of : Items → ℕ
observables_of items = past_named named_observables items

-- the most steps of a circuit
abbrev pub most_steps : ℕ
most_steps = 1048576

-- where a count of steps stops: one more than the most
abbrev pub steps_cap : ℕ
steps_cap = most_steps + 1

-- what refuses a whole circuit: a lookback, or else the number of steps
unfoldable pub check_of : Items → Option Refusal
check_of items =
    if looks_too_far 0 (unroll items) then Some LookbackTooFar
    else if nat_lt most_steps (length (unroll items)) then Some TooManySteps
    else None

-- what refuses a whole circuit on n qubits: a qubit, or else as without n
abbrev pub check_within : ℕ → Items → Option Refusal
check_within n items = if nat_lt n (qubits_of items) then Some QubitOutOfRange else check_of items

-- the call found nothing that refuses the whole circuit, or this
abbrev pub Checks : {A : Type 0} → Result A Fault → Option Refusal → Type 0
Checks (Ok x) given = given ≡ None
Checks (Err fault) given = (given ≡ Some fault.refusal) × (fault ≡ whole fault.refusal)

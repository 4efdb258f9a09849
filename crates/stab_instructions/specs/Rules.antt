-- Rules: what holds of each instruction and of each opening of a block that a line means, by which its print is read as it again.
-- Source: Stim's circuit file format. The ranges of qubits, observables and counts, and that a tag has no #, are this project's own.
use Rattle.std.specs.Prelude.{◌≡◌, ◌≢◌, ◌<◌, ◌^◌, ℕ, Bool, true, false, ◌||◌, ◌==◌, List, [], ◌∷◌}
use Rattle.std.specs.List.{list_all, list_any}
use Rattle.stab_gates.specs.Limits.{most_qubits}
use Rattle.stab_instructions.specs.declared.control.ControlledPair.{ControlledPair}
use Rattle.stab_instructions.specs.declared.control.ControlledPair.TheVariants as pair
use Rattle.stab_instructions.specs.declared.operation.Kind.{Kind}
use Rattle.stab_instructions.specs.declared.operation.Kind.TheVariants as kind
use Rattle.stab_instructions.specs.declared.operation.Line.{Line}
use Rattle.stab_instructions.specs.declared.operation.Line.TheVariants.{Blank, Close, Open}
use Rattle.stab_instructions.specs.declared.operation.Line.TheVariants as line
use Rattle.stab_instructions.specs.declared.product.Factor.{Factor}
use Rattle.stab_instructions.specs.declared.range.MeasureTarget.{MeasureTarget}
use Rattle.stab_instructions.specs.Limits.{most_observables}
use Rattle.stab_instructions.specs.Lookbacks.{IsLookback}
use Rattle.stab_instructions.specs.Words.{is_some_word}
use Rattle.stab_instructions.specs.Targets.{is_coordinate_byte}
use Rattle.stab_instructions.specs.Products.{names_twice}

-- each element has P
abbrev pub Each : {A : Type 0} → (A → Type 0) → List A → Type 0
Each P [] = Unit {0}
Each P (x ∷ xs) = P x × Each P xs

-- whether the byte ends a tag or its line: a line feed, # or a closing bracket
abbrev pub ends_tag : ℕ → Bool
ends_tag b = (b == 10) || (b == 35) || (b == 93)

-- a tag has no such byte
abbrev pub IsTag : List ℕ → Type 0
IsTag tag = list_any ends_tag tag ≡ false

-- a coordinate is made of the bytes that it may have
abbrev pub IsCoordinate : List ℕ → Type 0
IsCoordinate c = (is_some_word c ≡ true) × (list_all is_coordinate_byte c ≡ true)

-- a qubit in range
abbrev pub IsQubit : ℕ → Type 0
IsQubit q = q < most_qubits

-- the same of a measured one
abbrev pub IsMeasured : MeasureTarget → Type 0
IsMeasured t = t.qubit < most_qubits

-- an observable in range
abbrev pub IsObservable : ℕ → Type 0
IsObservable j = j < most_observables

-- a count of rounds, of at most 18 digits
abbrev pub IsCount : ℕ → Type 0
IsCount n = (0 < n) × (n < 10 ^ 18)

-- two different qubits
abbrev pub IsPair : ℕ × ℕ → Type 0
IsPair p = (p.0 < most_qubits) × (p.1 < most_qubits) × (p.0 ≢ p.1)

-- what controls, and a qubit
abbrev pub IsControlled : ControlledPair → Type 0
IsControlled (pair.Qubits p) = IsPair p
IsControlled (pair.Record q k) = IsLookback k × IsQubit q

-- a letter on a qubit in range
abbrev pub IsFactor : Factor → Type 0
IsFactor f = f.qubit < most_qubits

-- there is one
abbrev pub IsFilled : List Factor → Type 0
IsFilled [] = ⊥
IsFilled (f ∷ fs) = Unit {0}

-- a product has factors, on different qubits
abbrev pub IsProduct : List Factor → Type 0
IsProduct fs = Each IsFactor fs × (names_twice fs ≡ false) × IsFilled fs

-- an instruction's numbers are in range, its coordinates are such, and qubits of a pair or a product differ
abbrev pub IsGoodKind : Kind → Type 0
IsGoodKind (kind.Gate g qubits) = Each IsQubit qubits
IsGoodKind (kind.Controlled axis pairs) = Each IsControlled pairs
IsGoodKind (kind.Swap pairs) = Each IsPair pairs
IsGoodKind (kind.Measure m targets) = Each IsMeasured targets
IsGoodKind (kind.Reset axis qubits) = Each IsQubit qubits
IsGoodKind (kind.MeasureProducts products) = Each IsProduct products
IsGoodKind (kind.Detector located) = Each IsCoordinate located.0 × Each IsLookback located.1
IsGoodKind (kind.ObservableInclude j ks) = IsObservable j × Each IsLookback ks
IsGoodKind kind.Tick = Unit {0}
IsGoodKind (kind.QubitCoords located) = Each IsCoordinate located.0 × Each IsQubit located.1
IsGoodKind (kind.ShiftCoords coordinates) = Each IsCoordinate coordinates

-- what a line means keeps these rules
abbrev pub IsGoodLine : Line → Type 0
IsGoodLine Blank = Unit {0}
IsGoodLine Close = Unit {0}
IsGoodLine (Open n tag) = IsCount n × IsTag tag
IsGoodLine (line.Operation op) = IsGoodKind op.kind × IsTag op.tag

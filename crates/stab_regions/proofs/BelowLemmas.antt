-- Observables that steps name: those of a circuit's items are among this many.
use Rattle.stab_regions.proofs.Names.{ℕ, zero, suc, ◌≤◌, false, true, List, [], ◌∷◌, map, get_or, arith, All, All-nil, All-cons, All-append, All-map, Axis, ControlledPair, Kind, Items, done, next, block, letter_of, Step, one, two, collapse, detector, observable, measured, controlled_step, steps_of, rounds, unroll, past, named_observables, observables_of, max-left, max-right, NamesBelow}
use Rattle.stab_gates.specs.declared.gate.PairGate.TheVariants as gate
use Rattle.stab_instructions.specs.declared.control.ControlledPair.TheVariants as pair
use Rattle.stab_instructions.specs.declared.operation.Kind.TheVariants as kind
use Rattle.stab_items.specs.Steps.{measured_product}

each : {A : Type 0} (m : ℕ) (f : A → Step) → ((x : A) → NamesBelow m (f x)) → (xs : List A) → All (NamesBelow m) (map f xs)
each m f below xs = All-map (NamesBelow m) f xs (λ k d lt. below (get_or xs k d))

controlled-below : (m : ℕ) (a : Axis) (p : ControlledPair) → NamesBelow m (controlled_step a p)
controlled-below m a (pair.Qubits p) = tt
controlled-below m a (pair.Record q k) = tt

single : (m : ℕ) (x : Step) → NamesBelow m x → All (NamesBelow m) (x ∷ [])
single m x below = All-cons (NamesBelow m) x [] below (All-nil (NamesBelow m))

kind-below : (m : ℕ) (k : Kind) → past (named_observables k) ≤ m → All (NamesBelow m) (steps_of k)
kind-below m (kind.Gate g qubits) le = each m (one g) (λ q. tt) qubits
kind-below m (kind.Controlled axis pairs) le = each m (controlled_step axis) (controlled-below m axis) pairs
kind-below m (kind.Swap pairs) le = each m (λ (p : ℕ × ℕ). two gate.Swap p.0 p.1) (λ p. tt) pairs
kind-below m (kind.Measure how targets) le = each m (measured how) (λ t. tt) targets
kind-below m (kind.Reset axis qubits) le = each m (λ q. collapse (letter_of axis) q false false true) (λ q. tt) qubits
kind-below m (kind.MeasureProducts products) le = each m measured_product (λ p. tt) products
kind-below m (kind.Detector located) le = single m (detector located.1) tt
kind-below m (kind.ObservableInclude j ks) le = single m (observable j ks) (omega (arith, le))
kind-below m kind.Tick le = All-nil (NamesBelow m)
kind-below m (kind.QubitCoords located) le = All-nil (NamesBelow m)
kind-below m (kind.ShiftCoords coordinates) le = All-nil (NamesBelow m)

rounds-below : (m count : ℕ) (xs : List Step) → All (NamesBelow m) xs → All (NamesBelow m) (rounds count xs)
rounds-below m zero xs below = All-nil (NamesBelow m)
rounds-below m (suc count) xs below = All-append (NamesBelow m) xs (rounds count xs) below (rounds-below m count xs below)

items-below : (m : ℕ) (items : Items) → observables_of items ≤ m → All (NamesBelow m) (unroll items)
items-below m done le = All-nil (NamesBelow m)
items-below m (next op rest) le =
    All-append (NamesBelow m) (steps_of op.kind) (unroll rest)
    (kind-below m op.kind (max-left (past (named_observables op.kind)) (observables_of rest) m le))
    (items-below m rest (max-right (past (named_observables op.kind)) (observables_of rest) m le))
items-below m (block count tag body rest) le =
    All-append (NamesBelow m) (rounds count (unroll body)) (unroll rest)
    (rounds-below m count (unroll body) (items-below m body (max-left (observables_of body) (observables_of rest) m le)))
    (items-below m rest (max-right (observables_of body) (observables_of rest) m le))

pub names-below : (items : Items) → All (NamesBelow (observables_of items)) (unroll items)
names-below items = items-below (observables_of items) items (omega arith)

-- StepFits: the steps of a circuit that is not refused on n qubits are on these qubits.
use Rattle.stab_run.proofs.Names.{◌≡◌, ℕ, zero, suc, ◌<◌, ◌≤◌, min, max, refl, sym, subst, Bool, true, false, nat_lt, List, [], ◌∷◌, ◌++◌, length, map, All, get_or, arith, Option, Some, None, if◌then◌else◌, All-nil, All-cons, All-append, Refusal, PairGate, MeasureTarget, Measurement, Axis, ControlledPair, Factor, Kind, Items, done, next, block, letter_of, pair_qubits, Step, one, two, controlled, collapse, product, detector, observable, measured, measured_product, controlled_gate, controlled_step, steps_of, rounds, unroll, past, target_qubits, controlled_qubits, factor_qubits, product_qubits, named_qubits, qubits_of, most_steps, steps_cap, check_of, check_within, HasDistinctQubits, StepFits}
use Rattle.stab_gates.specs.declared.gate.PairGate.TheVariants as gate
use Rattle.stab_instructions.specs.declared.control.ControlledPair.TheVariants as pair
use Rattle.stab_instructions.specs.declared.operation.Kind.TheVariants as kind

-- the qubits of a step are below n
abbrev IsWithin : ℕ → Step → Type 0
IsWithin n (one g q) = q < n
IsWithin n (two g a b) = (a < n) × (b < n)
IsWithin n (controlled l k q) = q < n
IsWithin n (collapse l q recorded inverted resets) = q < n
IsWithin n (product factors inverted) = All (λ f. f.qubit < n) factors
IsWithin n (detector ks) = Unit {0}
IsWithin n (observable j ks) = Unit {0}

-- a list of numbers below n, and those before the first of them

past-head : (n k : ℕ) (ks : List ℕ) → past (k ∷ ks) ≤ n → k < n
past-head n k ks le = omega arith

past-tail : (n k : ℕ) (ks : List ℕ) → past (k ∷ ks) ≤ n → past ks ≤ n
past-tail n k ks le = omega arith

within-qubits : (n : ℕ) (f : ℕ → Step) → ((q : ℕ) → q < n → IsWithin n (f q)) → (qs : List ℕ) → past qs ≤ n → All (IsWithin n) (map f qs)
within-qubits n f each [] le = All-nil (IsWithin n)
within-qubits n f each (q ∷ qs) le =
    All-cons (IsWithin n) (f q) (map f qs) (each q (past-head n q qs le)) (within-qubits n f each qs (past-tail n q qs le))

past-front : (n : ℕ) (ks js : List ℕ) → past (ks ++ js) ≤ n → past ks ≤ n
past-front n [] js le = omega arith
past-front n (k ∷ ks) js le = let more : past ks ≤ n = past-front n ks js (past-tail n k (ks ++ js) le) in let lt : k < n = past-head n k (ks ++ js) le in omega arith

past-back : (n : ℕ) (ks js : List ℕ) → past (ks ++ js) ≤ n → past js ≤ n
past-back n [] js le = le
past-back n (k ∷ ks) js le = past-back n ks js (past-tail n k (ks ++ js) le)

within-pairs : (n : ℕ) (g : PairGate) (ps : List (ℕ × ℕ)) → past (pair_qubits ps) ≤ n → All (IsWithin n) (map (λ pair. two g pair.0 pair.1) ps)
within-pairs n g [] le = All-nil (IsWithin n)
within-pairs n g (p ∷ ps) le =
    let later : past (p.1 ∷ pair_qubits ps) ≤ n = past-tail n p.0 (p.1 ∷ pair_qubits ps) le in
    All-cons (IsWithin n) (two g p.0 p.1) (map (λ pair. two g pair.0 pair.1) ps)
    (past-head n p.0 (p.1 ∷ pair_qubits ps) le, past-head n p.1 (pair_qubits ps) later)
    (within-pairs n g ps (past-tail n p.1 (pair_qubits ps) later))

within-controlled : (n : ℕ) (a : Axis) (ps : List ControlledPair) → past (controlled_qubits ps) ≤ n → All (IsWithin n) (map (controlled_step a) ps)
within-controlled n a [] le = All-nil (IsWithin n)
within-controlled n a (pair.Qubits p ∷ ps) le =
    let later : past (p.1 ∷ controlled_qubits ps) ≤ n = past-tail n p.0 (p.1 ∷ controlled_qubits ps) le in
    All-cons (IsWithin n) (two (controlled_gate a) p.0 p.1) (map (controlled_step a) ps)
    (past-head n p.0 (p.1 ∷ controlled_qubits ps) le, past-head n p.1 (controlled_qubits ps) later)
    (within-controlled n a ps (past-tail n p.1 (controlled_qubits ps) later))
within-controlled n a (pair.Record q k ∷ ps) le =
    All-cons (IsWithin n) (controlled (letter_of a) k q) (map (controlled_step a) ps)
    (past-head n q (controlled_qubits ps) le) (within-controlled n a ps (past-tail n q (controlled_qubits ps) le))

within-factors : (n : ℕ) (fs : List Factor) → past (factor_qubits fs) ≤ n → All (λ f. f.qubit < n) fs
within-factors n [] le = All-nil (λ f. f.qubit < n)
within-factors n (f ∷ fs) le =
    All-cons (λ f. f.qubit < n) f fs (past-head n f.qubit (factor_qubits fs) le) (within-factors n fs (past-tail n f.qubit (factor_qubits fs) le))

within-products : (n : ℕ) (ps : List (List Factor)) → past (product_qubits ps) ≤ n → All (IsWithin n) (map measured_product ps)
within-products n [] le = All-nil (IsWithin n)
within-products n (p ∷ ps) le =
    All-cons (IsWithin n) (measured_product p) (map measured_product ps)
    (within-factors n p (past-front n (factor_qubits p) (product_qubits ps) le))
    (within-products n ps (past-back n (factor_qubits p) (product_qubits ps) le))

within-targets : (n : ℕ) (m : Measurement) (ts : List MeasureTarget) → past (target_qubits ts) ≤ n → All (IsWithin n) (map (measured m) ts)
within-targets n m [] le = All-nil (IsWithin n)
within-targets n m (t ∷ ts) le =
    All-cons (IsWithin n) (measured m t) (map (measured m) ts) (past-head n t.qubit (target_qubits ts) le)
    (within-targets n m ts (past-tail n t.qubit (target_qubits ts) le))

within-one : (n : ℕ) (x : Step) → IsWithin n x → All (IsWithin n) (x ∷ [])
within-one n x w = All-cons (IsWithin n) x [] w (All-nil (IsWithin n))

within-kind : (n : ℕ) (k : Kind) → past (named_qubits k) ≤ n → All (IsWithin n) (steps_of k)
within-kind n (kind.Gate g qubits) le = within-qubits n (one g) (λ q lt. lt) qubits le
within-kind n (kind.Controlled axis pairs) le = within-controlled n axis pairs le
within-kind n (kind.Swap pairs) le = within-pairs n gate.Swap pairs le
within-kind n (kind.Measure m targets) le = within-targets n m targets le
within-kind n (kind.Reset axis qubits) le = within-qubits n (λ q. collapse (letter_of axis) q false false true) (λ q lt. lt) qubits le
within-kind n (kind.MeasureProducts products) le = within-products n products le
within-kind n (kind.Detector located) le = within-one n (detector located.1) tt
within-kind n (kind.ObservableInclude j ks) le = within-one n (observable j ks) tt
within-kind n kind.Tick le = All-nil (IsWithin n)
within-kind n (kind.QubitCoords located) le = All-nil (IsWithin n)
within-kind n (kind.ShiftCoords coordinates) le = All-nil (IsWithin n)

within-rounds : (n count : ℕ) (xs : List Step) → All (IsWithin n) xs → All (IsWithin n) (rounds count xs)
within-rounds n zero xs w = All-nil (IsWithin n)
within-rounds n (suc count) xs w = All-append (IsWithin n) xs (rounds count xs) w (within-rounds n count xs w)

pub max-left : (a b n : ℕ) → max a b ≤ n → a ≤ n
max-left a b n le = omega arith

pub max-right : (a b n : ℕ) → max a b ≤ n → b ≤ n
max-right a b n le = omega arith

within-items : (n : ℕ) (items : Items) → qubits_of items ≤ n → All (IsWithin n) (unroll items)
within-items n done le = All-nil (IsWithin n)
within-items n (next op rest) le =
    All-append (IsWithin n) (steps_of op.kind) (unroll rest)
    (within-kind n op.kind (max-left (past (named_qubits op.kind)) (qubits_of rest) n le))
    (within-items n rest (max-right (past (named_qubits op.kind)) (qubits_of rest) n le))
within-items n (block count tag body rest) le =
    All-append (IsWithin n) (rounds count (unroll body)) (unroll rest)
    (within-rounds n count (unroll body) (within-items n body (max-left (qubits_of body) (qubits_of rest) n le)))
    (within-items n rest (max-right (qubits_of body) (qubits_of rest) n le))

fits-within : (n : ℕ) (x : Step) → IsWithin n x → HasDistinctQubits x → StepFits n x
fits-within n (one g q) w a = w
fits-within n (two g p q) w a = (w.0, w.1, a)
fits-within n (controlled l k q) w a = w
fits-within n (collapse l q recorded inverted resets) w a = w
fits-within n (product factors inverted) w a = w
fits-within n (detector ks) w a = w
fits-within n (observable j ks) w a = w

-- what a check that finds nothing says

pub chosen : (b : Bool) (r : Refusal) (o : Option Refusal) → (if b then Some r else o) ≡ None → (b ≡ false) × (o ≡ None)
chosen false r o e = (refl, e)
chosen true r o e = cc

not_less : (a b : ℕ) → nat_lt a b ≡ false → b ≤ a
not_less a b e = grind arith

pub check-qubits : (n : ℕ) (items : Items) → check_within n items ≡ None → qubits_of items ≤ n
check-qubits n items e = not_less n (qubits_of items) (chosen _ _ _ e).0

pub check-whole : (n : ℕ) (items : Items) → check_within n items ≡ None → check_of items ≡ None
check-whole n items e = (chosen _ _ _ e).1

pub check-steps : (items : Items) → check_of items ≡ None → length (unroll items) ≤ 1048576
unfolding check_of
check-steps items e = not_less most_steps (length (unroll items)) (chosen _ _ _ (chosen _ _ _ e).1).0

-- if nothing refuses the items, they have as many steps as are counted
pub counted-steps : (n : ℕ) (items : Items) → check_within n items ≡ None → min (length (unroll items)) steps_cap ≡ length (unroll items)
counted-steps n items e = let few = check-steps items (check-whole n items e) in omega arith

pub check-fits : (n : ℕ) (items : Items) (xs : List Step) → check_within n items ≡ None → xs ≡ unroll items → All HasDistinctQubits xs → All (StepFits n) xs
check-fits n items xs e is distinct = λ k d lt.
    fits-within n (get_or xs k d) (subst (All (IsWithin n)) (sym is) (within-items n items (check-qubits n items e)) k d lt) (distinct k d lt)

-- Marks: what items mark, one after another and in rounds, and which single errors of the table are at marks.
use Rattle.stab_error_model.proofs.Names.{◌≡◌, ℕ, zero, suc, ◌+◌, ◌*◌, ◌<◌, ◌≤◌, refl, sym, ap, ◌∙◌, Bool, true, List, [], ◌∷◌, ◌++◌, append_assoc, append-nil, map, take, drop, get_or, length, arith, false, take-append-drop, All, if◌then◌else◌, flat_map, length-append, length-map, take_more, flat_map-append, All-append, All-cons, All-head, All-nil, All-tail, Gate, ControlledPair, letter_of, Operation, Kind, Items, OneItem, next, block, join, listed-append, listed_pushed, Step, one, two, collapse, steps_of, unroll, rounds, controlled_step, measured, measured_product, length-rounds, unroll-join, SingleError, single_errors_from, single_errors_on, in_front, marked_at, Marks, instruction_rounds, instructions, is_idle, marks_by, marks_from, marks_of, target_single_errors, marked_single_errors}
use Rattle.stab_gates.specs.declared.gate.Gate.TheVariants as gate
use Rattle.stab_gates.specs.declared.gate.PairGate.TheVariants as swap
use Rattle.stab_instructions.specs.declared.control.ControlledPair.TheVariants as pair
use Rattle.stab_instructions.specs.declared.operation.Kind.TheVariants as kind
use Rattle.stab_items.specs.Items.{done, before, listed}

-- the steps of instructions
abbrev pub steps_in : List Operation → List Step
steps_in ops = flat_map (λ op. steps_of op.kind) ops

steps-rounds : (n : ℕ) (ops : List Operation) → steps_in (instruction_rounds n ops) ≡ rounds n (steps_in ops)
steps-rounds zero ops = refl
steps-rounds (suc n) ops =
    flat_map-append (λ op. steps_of op.kind) ops (instruction_rounds n ops) ∙ ap (λ ss. steps_in ops ++ ss) (steps-rounds n ops)

-- are those of items
pub steps-unrolled : (items : Items) → steps_in (instructions items) ≡ unroll items
steps-unrolled done = refl
steps-unrolled (next op rest) = ap (λ ss. steps_of op.kind ++ ss) (steps-unrolled rest)
steps-unrolled (block count tag body rest) =
    flat_map-append (λ op. steps_of op.kind) (instruction_rounds count (instructions body)) (instructions rest)
    ∙ ap (λ ss. ss ++ steps_in (instructions rest)) (steps-rounds count (instructions body) ∙ ap (rounds count) (steps-unrolled body))
    ∙ ap (λ ss. rounds count (unroll body) ++ ss) (steps-unrolled rest)

pub long-unrolled : (items : Items) → length (steps_in (instructions items)) ≡ length (unroll items)
long-unrolled items = ap length (steps-unrolled items)

pub long-rounds : (n : ℕ) (items : Items) → length (steps_in (instruction_rounds n (instructions items))) ≡ n * length (unroll items)
long-rounds n items =
    ap length (steps-rounds n (instructions items)) ∙ length-rounds n (steps_in (instructions items)) ∙ ap (λ k. n * k) (long-unrolled items)

-- instructions one after another
pub marks-append : (t : ℕ) (xs ys : List Operation) → marks_from t (xs ++ ys) ≡ marks_from t xs ++ marks_from (t + length (steps_in xs)) ys
marks-append t [] ys = ap (λ k. marks_from k ys) (omega arith)
marks-append t (op ∷ xs) ys =
    let here : ℕ = length (steps_of op.kind) in
    let sum : (t + here) + length (steps_in xs) ≡ t + length (steps_in (op ∷ xs)) = omega (arith, length-append (steps_of op.kind) (steps_in xs)) in
    ap (λ ms. marks_by t op.tag op.kind ++ ms) (marks-append (t + here) xs ys ∙ ap (λ k. marks_from (t + here) xs ++ marks_from k ys) sum)
    ∙ sym (append_assoc (marks_by t op.tag op.kind) (marks_from (t + here) xs) (marks_from (t + length (steps_in (op ∷ xs))) ys))

-- items one after another
pub instructions-join : (xs ys : Items) → instructions (join xs ys) ≡ instructions xs ++ instructions ys
instructions-join done ys = refl
instructions-join (next op rest) ys = ap (λ ops. op ∷ ops) (instructions-join rest ys)
instructions-join (block count tag body rest) ys =
    ap (λ ops. instruction_rounds count (instructions body) ++ ops) (instructions-join rest ys)
    ∙ sym (append_assoc (instruction_rounds count (instructions body)) (instructions rest) (instructions ys))

pub marks-join : (t : ℕ) (xs ys : Items) → marks_from t (instructions (join xs ys)) ≡ marks_from t (instructions xs) ++ marks_from (t + length (unroll xs)) (instructions ys)
marks-join t xs ys =
    ap (marks_from t) (instructions-join xs ys)
    ∙ marks-append t (instructions xs) (instructions ys)
    ∙ ap (λ k. marks_from t (instructions xs) ++ marks_from (t + k) (instructions ys)) (long-unrolled xs)

-- one round more, after the others
pub rounds-following : (n : ℕ) (ops : List Operation) → instruction_rounds (n + 1) ops ≡ instruction_rounds n ops ++ ops
rounds-following zero ops = append-nil ops
rounds-following (suc n) ops =
    let next : suc n + 1 ≡ suc (n + 1) = omega arith in
    ap (λ k. instruction_rounds k ops) next ∙ ap (λ more. ops ++ more) (rounds-following n ops) ∙ sym (append_assoc ops (instruction_rounds n ops) ops)

pub marks-round : (t n : ℕ) (body : Items) → marks_from t (instruction_rounds (n + 1) (instructions body))
    ≡ marks_from t (instruction_rounds n (instructions body)) ++ marks_from (t + n * length (unroll body)) (instructions body)
marks-round t n body =
    ap (marks_from t) (rounds-following n (instructions body))
    ∙ marks-append t (instruction_rounds n (instructions body)) (instructions body)
    ∙ ap (λ k. marks_from t (instruction_rounds n (instructions body)) ++ marks_from (t + k) (instructions body)) (long-rounds n body)

-- without a step nothing is marked

no-targets : (t : ℕ) (tag : List ℕ) (k : Kind) → length (steps_of k) ≡ 0 → marks_by t tag k ≡ []
no-targets t tag (kind.Gate g []) none = idle (is_idle g)
  where
    idle : (b : Bool) → (if b then marks_of t tag [] else []) ≡ []
    idle true = refl
    idle false = refl
no-targets t tag (kind.Gate g (q ∷ qs)) none = absurd (omega (arith, none))
no-targets t tag (kind.Controlled axis pairs) none = refl
no-targets t tag (kind.Swap pairs) none = refl
no-targets t tag (kind.Measure m targets) none = refl
no-targets t tag (kind.Reset axis qubits) none = refl
no-targets t tag (kind.MeasureProducts products) none = refl
no-targets t tag (kind.Detector located) none = refl
no-targets t tag (kind.ObservableInclude j ks) none = refl
no-targets t tag kind.Tick none = refl
no-targets t tag (kind.QubitCoords located) none = refl
no-targets t tag (kind.ShiftCoords coordinates) none = refl

pub no-marks : (t : ℕ) (ops : List Operation) → length (steps_in ops) ≡ 0 → marks_from t ops ≡ []
no-marks t [] none = refl
no-marks t (op ∷ ops) none =
    let both : length (steps_of op.kind) + length (steps_in ops) ≡ 0 = sym (length-append (steps_of op.kind) (steps_in ops)) ∙ none in
    ap (λ ms. ms ++ marks_from (t + length (steps_of op.kind)) ops) (no-targets t op.tag op.kind (omega (arith, both)))
    ∙ no-marks (t + length (steps_of op.kind)) ops (omega (arith, both))

-- single errors at marks

idle-marks : (g : Gate) (q : ℕ) → marked_at (one g q) ≡ (if is_idle g then in_front q ∷ [] else [])
idle-marks gate.I q = refl
idle-marks gate.X q = refl
idle-marks gate.Y q = refl
idle-marks gate.Z q = refl
idle-marks gate.H q = refl
idle-marks gate.S q = refl
idle-marks gate.SDag q = refl
idle-marks gate.CXyz q = refl
idle-marks gate.CZyx q = refl
idle-marks gate.SqrtX q = refl
idle-marks gate.SqrtXDag q = refl
idle-marks gate.SqrtY q = refl
idle-marks gate.SqrtYDag q = refl

-- steps that mark nothing have none
no-single_errors : (t : ℕ) (xs : List Step) → All (λ x. marked_at x ≡ []) xs → single_errors_from false t xs ≡ []
no-single_errors t [] none = refl
no-single_errors t (x ∷ xs) none =
    ap (λ ss. flat_map (single_errors_on t) ss ++ single_errors_from false (t + 1) xs) (All-head (λ x. marked_at x ≡ []) x xs none)
    ∙ no-single_errors (t + 1) xs (All-tail (λ x. marked_at x ≡ []) x xs none)

none-mapped : {A : Type 0} (f : A → Step) (xs : List A) → ((a : A) → marked_at (f a) ≡ []) → All (λ x. marked_at x ≡ []) (map f xs)
none-mapped f [] none = All-nil (λ x. marked_at x ≡ [])
none-mapped f (a ∷ xs) none = All-cons (λ x. marked_at x ≡ []) (f a) (map f xs) (none a) (none-mapped f xs none)

gate-single_errors : (t : ℕ) (g : Gate) (qubits : List ℕ) → single_errors_from false t (map (one g) qubits) ≡ (if is_idle g then target_single_errors t qubits else [])
gate-single_errors t g [] = nothing (is_idle g)
  where
    nothing : (b : Bool) → [] ≡ (if b then target_single_errors t [] else [])
    nothing true = refl
    nothing false = refl
gate-single_errors t g (q ∷ qs) =
    ap (λ ss. flat_map (single_errors_on t) ss ++ single_errors_from false (t + 1) (map (one g) qs)) (idle-marks g q)
    ∙ ap (λ fs. flat_map (single_errors_on t) (if is_idle g then in_front q ∷ [] else []) ++ fs) (gate-single_errors (t + 1) g qs)
    ∙ together (is_idle g)
  where
    together : (b : Bool) → flat_map (single_errors_on t) (if b then in_front q ∷ [] else []) ++ (if b then target_single_errors (t + 1) qs else []) ≡ (if b then target_single_errors t (q ∷ qs) else [])
    together true = refl
    together false = refl

marked-targets : (t : ℕ) (tag qubits : List ℕ) → flat_map marked_single_errors (marks_of t tag qubits) ≡ target_single_errors t qubits
marked-targets t tag [] = refl
marked-targets t tag (q ∷ qs) = append-nil (target_single_errors t (q ∷ qs))

kind-single_errors : (t : ℕ) (tag : List ℕ) (k : Kind) → single_errors_from false t (steps_of k) ≡ flat_map marked_single_errors (marks_by t tag k)
kind-single_errors t tag (kind.Gate g qubits) = gate-single_errors t g qubits ∙ marked (is_idle g)
  where
    marked : (b : Bool) → (if b then target_single_errors t qubits else []) ≡ flat_map marked_single_errors (if b then marks_of t tag qubits else [])
    marked true = sym (marked-targets t tag qubits)
    marked false = refl
kind-single_errors t tag (kind.Controlled axis pairs) = no-single_errors t (map (controlled_step axis) pairs) (none-mapped (controlled_step axis) pairs each)
  where
    each : (p : ControlledPair) → marked_at (controlled_step axis p) ≡ []
    each (pair.Qubits p) = refl
    each (pair.Record q k) = refl
kind-single_errors t tag (kind.Swap pairs) = no-single_errors t (steps_of (kind.Swap pairs)) (none-mapped (λ p. two swap.Swap p.0 p.1) pairs (λ p. refl))
kind-single_errors t tag (kind.Measure m targets) = no-single_errors t (map (measured m) targets) (none-mapped (measured m) targets (λ p. refl))
kind-single_errors t tag (kind.Reset axis qubits) = no-single_errors t (steps_of (kind.Reset axis qubits)) (none-mapped (λ q. collapse (letter_of axis) q false false true) qubits (λ q. refl))
kind-single_errors t tag (kind.MeasureProducts products) = no-single_errors t (map measured_product products) (none-mapped measured_product products (λ p. refl))
kind-single_errors t tag (kind.Detector located) = refl
kind-single_errors t tag (kind.ObservableInclude j ks) = refl
kind-single_errors t tag kind.Tick = refl
kind-single_errors t tag (kind.QubitCoords located) = refl
kind-single_errors t tag (kind.ShiftCoords coordinates) = refl

single_errors-append : (t : ℕ) (xs ys : List Step) → single_errors_from false t (xs ++ ys) ≡ single_errors_from false t xs ++ single_errors_from false (t + length xs) ys
single_errors-append t [] ys = ap (λ k. single_errors_from false k ys) (omega arith)
single_errors-append t (x ∷ xs) ys =
    let here : List SingleError = flat_map (single_errors_on t) (marked_at x) in
    ap (λ fs. here ++ fs) (single_errors-append (t + 1) xs ys ∙ ap (λ k. single_errors_from false (t + 1) xs ++ single_errors_from false k ys) (omega arith))
    ∙ sym (append_assoc here (single_errors_from false (t + 1) xs) (single_errors_from false (t + length (x ∷ xs)) ys))

marked-from : (t : ℕ) (ops : List Operation) → single_errors_from false t (steps_in ops) ≡ flat_map marked_single_errors (marks_from t ops)
marked-from t [] = refl
marked-from t (op ∷ ops) =
    single_errors-append t (steps_of op.kind) (steps_in ops)
    ∙ (λ i. kind-single_errors t op.tag op.kind i ++ marked-from (t + length (steps_of op.kind)) ops i)
    ∙ sym (flat_map-append marked_single_errors (marks_by t op.tag op.kind) (marks_from (t + length (steps_of op.kind)) ops))

-- the single errors of the table are those at marks
pub marked-all : (items : Items) → single_errors_from false 0 (unroll items) ≡ flat_map marked_single_errors (marks_from 0 (instructions items))
marked-all items = ap (single_errors_from false 0) (sym (steps-unrolled items)) ∙ marked-from 0 (instructions items)

-- marks are at steps

abbrev pub EndsBy : ℕ → Marks → Type 0
EndsBy end m = m.step + length m.qubits ≤ end

targets-end : (t end : ℕ) (tag qubits : List ℕ) → t + length qubits ≤ end → All (EndsBy end) (marks_of t tag qubits)
targets-end t end tag [] le = All-nil (EndsBy end)
targets-end t end tag (q ∷ qs) le = All-cons (EndsBy end) (record { tag = tag; qubits = q ∷ qs; step = t }) [] le (All-nil (EndsBy end))

kind-ends : (t end : ℕ) (tag : List ℕ) (k : Kind) → t + length (steps_of k) ≤ end → All (EndsBy end) (marks_by t tag k)
kind-ends t end tag (kind.Gate g qubits) le = idle (is_idle g)
  where
    idle : (b : Bool) → All (EndsBy end) (if b then marks_of t tag qubits else [])
    idle true = targets-end t end tag qubits (omega (arith, le, length-map qubits (one g)))
    idle false = All-nil (EndsBy end)
kind-ends t end tag (kind.Controlled axis pairs) le = All-nil (EndsBy end)
kind-ends t end tag (kind.Swap pairs) le = All-nil (EndsBy end)
kind-ends t end tag (kind.Measure m targets) le = All-nil (EndsBy end)
kind-ends t end tag (kind.Reset axis qubits) le = All-nil (EndsBy end)
kind-ends t end tag (kind.MeasureProducts products) le = All-nil (EndsBy end)
kind-ends t end tag (kind.Detector located) le = All-nil (EndsBy end)
kind-ends t end tag (kind.ObservableInclude j ks) le = All-nil (EndsBy end)
kind-ends t end tag kind.Tick le = All-nil (EndsBy end)
kind-ends t end tag (kind.QubitCoords located) le = All-nil (EndsBy end)
kind-ends t end tag (kind.ShiftCoords coordinates) le = All-nil (EndsBy end)

pub marks-end : (t end : ℕ) (ops : List Operation) → t + length (steps_in ops) ≤ end → All (EndsBy end) (marks_from t ops)
marks-end t end [] le = All-nil (EndsBy end)
marks-end t end (op ∷ ops) le =
    let sum : length (steps_in (op ∷ ops)) ≡ length (steps_of op.kind) + length (steps_in ops) = length-append (steps_of op.kind) (steps_in ops) in
    All-append (EndsBy end) (marks_by t op.tag op.kind) (marks_from (t + length (steps_of op.kind)) ops)
    (kind-ends t end op.tag op.kind (omega (arith, le, sum)))
    (marks-end (t + length (steps_of op.kind)) end ops (omega (arith, le, sum)))

-- items as they are walked over

-- one item more
pub items-more : (xs : List OneItem) (k : ℕ) (x : OneItem) → k < length xs → x ≡ get_or xs k x → listed (take (k + 1) xs) ≡ join (listed (take k xs)) (before x done)
items-more xs k x lt is = ap listed (take_more xs k x lt ∙ ap (λ y. take k xs ++ y ∷ []) (sym is)) ∙ listed_pushed (take k xs) x

pub steps-more : (xs : List OneItem) (k : ℕ) (x : OneItem) → k < length xs → x ≡ get_or xs k x
    → length (unroll (listed (take (k + 1) xs))) ≡ length (unroll (listed (take k xs))) + length (unroll (before x done))
steps-more xs k x lt is =
    ap (λ items. length (unroll items)) (items-more xs k x lt is)
    ∙ ap length (unroll-join (listed (take k xs)) (before x done))
    ∙ length-append (unroll (listed (take k xs))) (unroll (before x done))

pub marks-more : (t : ℕ) (xs : List OneItem) (k : ℕ) (x : OneItem) → k < length xs → x ≡ get_or xs k x
    → marks_from t (instructions (listed (take (k + 1) xs)))
    ≡ marks_from t (instructions (listed (take k xs))) ++ marks_from (t + length (unroll (listed (take k xs)))) (instructions (before x done))
marks-more t xs k x lt is = ap (λ items. marks_from t (instructions items)) (items-more xs k x lt is) ∙ marks-join t (listed (take k xs)) (before x done)

-- no more steps than all have
pub steps-within : (xs : List OneItem) (k : ℕ) → length (unroll (listed (take k xs))) ≤ length (unroll (listed xs))
steps-within xs k =
    let all : listed xs ≡ join (listed (take k xs)) (listed (drop k xs)) = ap listed (sym (take-append-drop k xs)) ∙ listed-append (take k xs) (drop k xs) in
    omega (
      arith,
      ap (λ items. length (unroll items)) all,
      ap length (unroll-join (listed (take k xs)) (listed (drop k xs))),
      length-append (unroll (listed (take k xs))) (unroll (listed (drop k xs))),
    )

-- one item alone

pub block-steps : (count : ℕ) (tag : List ℕ) (body : Items) → length (unroll (block count tag body done)) ≡ count * length (unroll body)
block-steps count tag body = ap length (append-nil (rounds count (unroll body))) ∙ length-rounds count (unroll body)

pub times-none : (n : ℕ) → n * 0 ≡ 0
times-none n = omega arith

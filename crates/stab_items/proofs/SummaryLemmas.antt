-- The summaries of items.
use Rattle.stab_items.proofs.Names.{◌≡◌, ◌≤◌, ◌<◌, refl, ap, sym, ◌∙◌, subst, ℕ, ◌+◌, suc, max, min, Bool, true, false, List, [], ◌∷◌, ◌++◌, length, map, take, drop, get_or, All, arith, drop-cons, append-nil, nat_lt, Some, None, if◌then◌else◌, length-append, length-map, take_more, All-head, All-tail, nat_tests, LookbackTooFar, TooManySteps, Gate, Axis, Factor, ControlledPair, letter_of, MeasureTarget, Measurement, Kind, Operation, Summary, IsLookback, Items, OneItem, done, next, block, join, before, operation, repeat, listed, depth, pair_qubits, Step, one, two, collapse, measured, measured_product, controlled_step, steps_of, rounds, unroll, makes, records_of, is_detector, detectors_of, lookbacks, target_qubits, factor_qubits, product_qubits, controlled_qubits, past, past_named, qubits_of, observables_of, named_qubits, named_observables, looks_too_far, check_of, greatest, looks_back, furthest, window, steps_summary, kind_summary_of, summary_of, followed_by, repeated, judged, IsSummary, IsSumOf, IsGoodLine}
use Rattle.stab_gates.specs.declared.gate.PairGate.TheVariants as gate
use Rattle.stab_instructions.specs.declared.control.ControlledPair.TheVariants as pair
use Rattle.stab_instructions.specs.declared.operation.Kind.TheVariants as kind
use Rattle.stab_instructions.specs.declared.operation.Line.TheVariants as line
use Rattle.stab_items.proofs.ItemLemmas.{listed-append, depth-join}
use Rattle.stab_items.proofs.StepLemmas.{length-rounds, records_of-append, records_of-rounds, detectors_of-append, detectors_of-rounds, window-append, window-rounds, unroll-join, capped_sum, capped_left, capped_times, looks_too_far_window}

pub greatest_small : (ks : List ℕ) → All IsLookback ks → greatest ks ≤ 16777215
greatest_small [] a = omega arith
greatest_small (k ∷ ks) a = omega (arith, (All-head IsLookback k ks a).1, greatest_small ks (All-tail IsLookback k ks a))

-- loops over numbers, from the back
from_position : {A : Type 0} (f : List A → ℕ) (g : A → ℕ) (xs : List A) (i : ℕ) (d : A) → i < length xs → ((x : A) (more : List A) → f (x ∷ more) ≡ max (g x) (f more))
    → f (drop i xs) ≡ max (g (get_or xs i d)) (f (drop (i + 1) xs))
from_position f g xs i d h e =
    let next' : suc i ≡ i + 1 = omega arith in
    ap f (drop-cons xs i d h) ∙ e (get_or xs i d) (drop (suc i) xs) ∙ ap (λ n. max (g (get_or xs i d)) (f (drop n xs))) next'

pub greatest_dropped : (ks : List ℕ) (i : ℕ) → i < length ks → greatest (drop i ks) ≡ max (get_or ks i 0) (greatest (drop (i + 1) ks))
greatest_dropped ks i h = from_position greatest (λ k. k) ks i 0 h (λ k more. refl)

pub past_dropped : (qs : List ℕ) (i d : ℕ) → i < length qs → past (drop i qs) ≡ max (get_or qs i d + 1) (past (drop (i + 1) qs))
past_dropped qs i d h = from_position past (λ q. q + 1) qs i d h (λ q more. refl)

pub past_pairs_dropped : (ps : List (ℕ × ℕ)) (i : ℕ) (d : ℕ × ℕ) → i < length ps
    → past (pair_qubits (drop i ps)) ≡ max (max ((get_or ps i d).0 + 1) ((get_or ps i d).1 + 1)) (past (pair_qubits (drop (i + 1) ps)))
past_pairs_dropped ps i d h = from_position (λ l. past (pair_qubits l)) (λ p. max (p.0 + 1) (p.1 + 1)) ps i d h (λ p more. omega arith)

pub past_targets_dropped : (ts : List MeasureTarget) (i : ℕ) (d : MeasureTarget) → i < length ts
    → past (target_qubits (drop i ts)) ≡ max ((get_or ts i d).qubit + 1) (past (target_qubits (drop (i + 1) ts)))
past_targets_dropped ts i d h = from_position (λ l. past (target_qubits l)) (λ t. t.qubit + 1) ts i d h (λ t more. refl)

past-append : (xs ys : List ℕ) → past (xs ++ ys) ≡ max (past xs) (past ys)
past-append [] ys = omega arith
past-append (x ∷ xs) ys = omega (arith, past-append xs ys)

pub past_factors_dropped : (fs : List Factor) (i : ℕ) (d : Factor) → i < length fs
    → past (factor_qubits (drop i fs)) ≡ max ((get_or fs i d).qubit + 1) (past (factor_qubits (drop (i + 1) fs)))
past_factors_dropped fs i d h = from_position (λ l. past (factor_qubits l)) (λ f. f.qubit + 1) fs i d h (λ f more. refl)

pub past_products_dropped : (ps : List (List Factor)) (i : ℕ) (d : List Factor) → i < length ps
    → past (product_qubits (drop i ps)) ≡ max (past (factor_qubits (get_or ps i d))) (past (product_qubits (drop (i + 1) ps)))
past_products_dropped ps i d h = from_position (λ l. past (product_qubits l)) (λ fs. past (factor_qubits fs)) ps i d h (λ fs more. past-append (factor_qubits fs) (product_qubits more))

past_pair_more : (p : ControlledPair) (more : List ControlledPair) → past (controlled_qubits (p ∷ more)) ≡ max (past (controlled_qubits (p ∷ []))) (past (controlled_qubits more))
past_pair_more (pair.Qubits p) more = omega arith
past_pair_more (pair.Record q k) more = omega arith

pub past_controlled_dropped : (ps : List ControlledPair) (i : ℕ) (d : ControlledPair) → i < length ps
    → past (controlled_qubits (drop i ps)) ≡ max (past (controlled_qubits (get_or ps i d ∷ []))) (past (controlled_qubits (drop (i + 1) ps)))
past_controlled_dropped ps i d h = from_position (λ l. past (controlled_qubits l)) (λ p. past (controlled_qubits (p ∷ []))) ps i d h past_pair_more

pub furthest_dropped : (ps : List ControlledPair) (i : ℕ) (d : ControlledPair) → i < length ps → furthest (drop i ps) ≡ max (looks_back (get_or ps i d)) (furthest (drop (i + 1) ps))
furthest_dropped ps i d h = from_position furthest looks_back ps i d h (λ p more. refl)

abbrev summary : ℕ → ℕ → ℕ → ℕ → ℕ → ℕ → ℕ → Summary
summary a b t c q o d = record { steps = a; records = b; detectors = t; window = c; qubits = q; observables = o; depth = d }

same_summary : (a b t c d e s f q o r p x y : ℕ) → a ≡ d → b ≡ e → t ≡ s → c ≡ f → q ≡ r → o ≡ p → x ≡ y → summary a b t c q o x ≡ summary d e s f r p y
same_summary a b t c d e s f q o r p x y h k g l m n w = λ i. summary (h i) (k i) (g i) (l i) (m i) (n i) (w i)

-- one step more, which is no detector
none_more : (s : Step) (ss : List Step) → is_detector s ≡ false → detectors_of ss ≡ 0 → detectors_of (s ∷ ss) ≡ 0
none_more s ss e none = ap (λ b. if b then 1 + detectors_of ss else detectors_of ss) e ∙ none

-- steps that make no records, are no detectors and don't look back
abbrev IsPlain : Step → Type 0
IsPlain s = (makes s ≡ 0) × (is_detector s ≡ false) × (lookbacks s ≡ [])

plain_steps : {A : Type 0} (f : A → Step) (xs : List A) → ((x : A) → IsPlain (f x)) → (records_of (map f xs) ≡ 0) × (detectors_of (map f xs) ≡ 0) × (window (map f xs) ≡ 0)
plain_steps f [] p = (refl, refl, refl)
plain_steps f (x ∷ xs) p =
    let rest = plain_steps f xs p in
    (omega (arith, (p x).0, rest.0), none_more (f x) (map f xs) (p x).1 rest.1, omega (arith, ap greatest (p x).2, rest.2))

plain_summary : {A : Type 0} (f : A → Step) (xs : List A) (q : ℕ) → ((x : A) → IsPlain (f x)) → steps_summary (map f xs) q 0 0 ≡ summary (min (length xs) 1048577) 0 0 0 q 0 0
plain_summary f xs q p =
    let r = plain_steps f xs p in
    same_summary _ _ _ _ _ _ _ _ q 0 q 0 0 0 (ap (λ n. min n 1048577) (length-map xs f)) (omega (arith, r.0)) (omega (arith, r.1)) r.2 refl refl refl

pub gate_summary : (g : Gate) (qubits : List ℕ) → kind_summary_of (kind.Gate g qubits) ≡ record { steps = min (length qubits) 1048577; records = 0; detectors = 0; window = 0; qubits = past qubits; observables = 0; depth = 0 }
gate_summary g qubits = plain_summary (one g) qubits (past qubits) (λ q. (refl, refl, refl))

pub swap_summary : (pairs : List (ℕ × ℕ)) → kind_summary_of (kind.Swap pairs) ≡ record { steps = min (length pairs) 1048577; records = 0; detectors = 0; window = 0; qubits = past (pair_qubits pairs); observables = 0; depth = 0 }
swap_summary pairs = plain_summary (λ pair. two gate.Swap pair.0 pair.1) pairs (past (pair_qubits pairs)) (λ p. (refl, refl, refl))

pub reset_summary : (a : Axis) (qubits : List ℕ) → kind_summary_of (kind.Reset a qubits) ≡ record { steps = min (length qubits) 1048577; records = 0; detectors = 0; window = 0; qubits = past qubits; observables = 0; depth = 0 }
reset_summary a qubits = plain_summary (λ q. collapse (letter_of a) q false false true) qubits (past qubits) (λ q. (refl, refl, refl))

-- the pairs of a controlled gate
controlled_makes : (a : Axis) (p : ControlledPair) → (makes (controlled_step a p) ≡ 0) × (is_detector (controlled_step a p) ≡ false) × (greatest (lookbacks (controlled_step a p)) ≡ looks_back p)
controlled_makes a (pair.Qubits p) = (refl, refl, refl)
controlled_makes a (pair.Record q k) = (refl, refl, omega arith)

controlled_steps : (a : Axis) (ps : List ControlledPair) → (records_of (map (controlled_step a) ps) ≡ 0) × (detectors_of (map (controlled_step a) ps) ≡ 0) × (window (map (controlled_step a) ps) ≡ furthest ps)
controlled_steps a [] = (refl, refl, refl)
controlled_steps a (p ∷ ps) =
    let rest = controlled_steps a ps in
    let here = controlled_makes a p in
    (omega (arith, here.0, rest.0), none_more (controlled_step a p) (map (controlled_step a) ps) here.1 rest.1, omega (arith, here.0, here.2, rest.2))

pub controlled_summary : (a : Axis) (ps : List ControlledPair)
    → kind_summary_of (kind.Controlled a ps) ≡ record { steps = min (length ps) 1048577; records = 0; detectors = 0; window = furthest ps; qubits = past (controlled_qubits ps); observables = 0; depth = 0 }
controlled_summary a ps =
    let r = controlled_steps a ps in
    let past' = past (controlled_qubits ps) in
    same_summary _ _ _ _ _ _ _ _ past' 0 past' 0 0 0 (ap (λ n. min n 1048577) (length-map ps (controlled_step a))) (omega (arith, r.0)) (omega (arith, r.1)) r.2 refl refl refl

-- the same of an instruction that is one
pub controlled_found : {k : Kind} {a : Axis} {ps seen : List ControlledPair} → k ≡ kind.Controlled a ps → seen ≡ ps
    → summary (min (length seen) 1048577) 0 0 (furthest seen) (past (controlled_qubits seen)) 0 0 ≡ kind_summary_of k
controlled_found {k} {a} {ps} {seen} e f =
    ap (λ l. summary (min (length l) 1048577) 0 0 (furthest l) (past (controlled_qubits l)) 0 0) f ∙ sym (controlled_summary a ps) ∙ ap kind_summary_of (sym e)

-- steps that make a record each, are no detectors and don't look back
abbrev IsMeasured : Step → Type 0
IsMeasured s = (makes s ≡ 1) × (is_detector s ≡ false) × (lookbacks s ≡ [])

measured_steps : {A : Type 0} (f : A → Step) (xs : List A) → ((x : A) → IsMeasured (f x)) → (records_of (map f xs) ≡ length xs) × (detectors_of (map f xs) ≡ 0) × (window (map f xs) ≡ 0)
measured_steps f [] p = (refl, refl, refl)
measured_steps f (x ∷ xs) p =
    let rest = measured_steps f xs p in
    (omega (arith, (p x).0, rest.0), none_more (f x) (map f xs) (p x).1 rest.1, omega (arith, ap greatest (p x).2, rest.2))

measured_summary : {A : Type 0} (f : A → Step) (xs : List A) (q : ℕ) → ((x : A) → IsMeasured (f x)) → steps_summary (map f xs) q 0 0 ≡ summary (min (length xs) 1048577) (min (length xs) 16777215) 0 0 q 0 0
measured_summary f xs q p =
    let r = measured_steps f xs p in
    same_summary _ _ _ _ _ _ _ _ q 0 q 0 0 0 (ap (λ n. min n 1048577) (length-map xs f)) (ap (λ n. min n 16777215) r.0) (omega (arith, r.1)) r.2 refl refl refl

pub measure_summary : (m : Measurement) (ts : List MeasureTarget)
    → kind_summary_of (kind.Measure m ts) ≡ record { steps = min (length ts) 1048577; records = min (length ts) 16777215; detectors = 0; window = 0; qubits = past (target_qubits ts); observables = 0; depth = 0 }
measure_summary m ts = measured_summary (measured m) ts (past (target_qubits ts)) (λ t. (refl, refl, refl))

pub product_summary : (ps : List (List Factor))
    → kind_summary_of (kind.MeasureProducts ps) ≡ record { steps = min (length ps) 1048577; records = min (length ps) 16777215; detectors = 0; window = 0; qubits = past (product_qubits ps); observables = 0; depth = 0 }
product_summary ps = measured_summary measured_product ps (past (product_qubits ps)) (λ fs. (refl, refl, refl))

pub detector_summary : (located : List (List ℕ) × List ℕ) → kind_summary_of (kind.Detector located) ≡ record { steps = 1; records = 0; detectors = 1; window = greatest located.1; qubits = 0; observables = 0; depth = 0 }
detector_summary located = same_summary _ _ _ _ _ _ _ _ _ _ _ _ _ _ refl refl refl (omega arith) refl refl refl

pub observable_summary : (j : ℕ) (ks : List ℕ) → kind_summary_of (kind.ObservableInclude j ks) ≡ record { steps = 1; records = 0; detectors = 0; window = greatest ks; qubits = 0; observables = j + 1; depth = 0 }
observable_summary j ks = same_summary _ _ _ _ _ _ _ _ _ _ _ _ _ _ refl refl refl (omega arith) refl (omega arith) refl

-- one list of items after another
pub past_named-join : (named : Kind → List ℕ) (xs ys : Items) → past_named named (join xs ys) ≡ max (past_named named xs) (past_named named ys)
past_named-join named done ys = omega arith
past_named-join named (next op rest) ys = omega (arith, past_named-join named rest ys)
past_named-join named (block c t body rest) ys = omega (arith, past_named-join named rest ys)

capped_max : (a b cap : ℕ) → min (max a b) cap ≡ max (min a cap) (min b cap)
capped_max a b cap = omega arith

pub summary-join : (xs ys : Items) → window (unroll ys) ≤ 16777215 → summary_of (join xs ys) ≡ followed_by (summary_of xs) (summary_of ys)
summary-join xs ys h =
    same_summary _ _ _ _ _ _ _ _ _ _ _ _ _ _
    (ap (λ l. min (length l) 1048577) (unroll-join xs ys) ∙ ap (λ n. min n 1048577) (length-append (unroll xs) (unroll ys)) ∙ sym (capped_sum (length (unroll xs)) (length (unroll ys)) 1048577))
    (ap (λ l. min (records_of l) 16777215) (unroll-join xs ys) ∙ ap (λ n. min n 16777215) (records_of-append (unroll xs) (unroll ys)) ∙ sym (capped_sum (records_of (unroll xs)) (records_of (unroll ys)) 16777215))
    (ap (λ l. min (detectors_of l) 16777215) (unroll-join xs ys) ∙ ap (λ n. min n 16777215) (detectors_of-append (unroll xs) (unroll ys)) ∙ sym (capped_sum (detectors_of (unroll xs)) (detectors_of (unroll ys)) 16777215))
    (ap window (unroll-join xs ys) ∙ window-append (unroll xs) (unroll ys) ∙ ap (max (window (unroll xs))) (sym (capped_left (window (unroll ys)) (records_of (unroll xs)) 16777215 h)))
    (past_named-join named_qubits xs ys)
    (past_named-join named_observables xs ys)
    (ap (λ n. min n 17) (depth-join xs ys) ∙ capped_max (depth xs) (depth ys) 17)

pub operation_summary : (o : Operation) → summary_of (next o done) ≡ kind_summary_of o.kind
operation_summary o =
    ap (λ l. steps_summary l (max (past (named_qubits o.kind)) 0) (max (past (named_observables o.kind)) 0) 0) (append-nil (steps_of o.kind))
    ∙ same_summary _ _ _ _ _ _ _ _ _ _ _ _ _ _ refl refl refl refl (omega arith) (omega arith) refl

-- so an instruction and its numbers are stored together
pub operation_sum : (o : Operation) (s : Summary) → s ≡ kind_summary_of o.kind → IsSummary s → IsGoodLine (line.Operation o) → IsSumOf (next o done) s
operation_sum o s e small good = record { value = e ∙ sym (operation_summary o); small = small; good = (good, tt) }

-- the same of the item that it is
pub instruction_sum : (x : OneItem) (o : Operation) (s : Summary) → operation o ≡ x → IsSumOf (next o done) s → IsSumOf (before x done) s
instruction_sum x o s is sum = subst (λ y. IsSumOf (before y done) s) is sum

pub tick_sum : (x : OneItem) → operation (record { kind = kind.Tick; tag = [] }) ≡ x → IsSumOf (before x done) (record { steps = 0; records = 0; detectors = 0; window = 0; qubits = 0; observables = 0; depth = 0 })
tick_sum x is =
    let s : Summary = record { steps = 0; records = 0; detectors = 0; window = 0; qubits = 0; observables = 0; depth = 0 } in
    let o : Operation = record { kind = kind.Tick; tag = [] } in
    instruction_sum x o s is (operation_sum o s refl (record { steps = omega arith; records = omega arith; detectors = omega arith; window = omega arith; qubits = omega arith; depth = omega arith }) (tt, refl))

pub block_summary : (count : ℕ) (tag : List ℕ) (xs : Items) → 0 < count → summary_of (block count tag xs done) ≡ repeated count (summary_of xs)
block_summary count tag xs h =
    ap (λ l. steps_summary l (max (qubits_of xs) 0) (max (observables_of xs) 0) (max (depth xs + 1) 0)) (append-nil (rounds count (unroll xs)))
    ∙ same_summary _ _ _ _ _ _ _ _ _ _ _ _ _ _
    (ap (λ k. min k 1048577) (length-rounds count (unroll xs)) ∙ sym (capped_times count (length (unroll xs)) 1048577))
    (ap (λ k. min k 16777215) (records_of-rounds count (unroll xs)) ∙ sym (capped_times count (records_of (unroll xs)) 16777215))
    (ap (λ k. min k 16777215) (detectors_of-rounds count (unroll xs)) ∙ sym (capped_times count (detectors_of (unroll xs)) 16777215))
    (window-rounds count (unroll xs) h)
    (omega arith)
    (omega arith)
    (omega arith)

-- a block of which the summary of one round is stored
pub stored_summary : (x : OneItem) (n count : ℕ) (tag : List ℕ) (body : Items) (held stored all : Summary) → all ≡ repeated n held → 0 < n → n ≡ count → held ≡ stored → stored ≡ summary_of body
    → repeat count tag body ≡ x → all ≡ summary_of (before x done)
stored_summary x n count tag body held stored all e h m k r is =
    e
    ∙ ap (repeated n) (k ∙ r)
    ∙ sym (block_summary n tag body h)
    ∙ ap (λ l. summary_of (block l tag body done)) m
    ∙ ap (λ y. summary_of (before y done)) is

pub summary_pushed : (xs : List OneItem) (x : OneItem) → window (unroll (before x done)) ≤ 16777215
    → summary_of (listed (xs ++ x ∷ [])) ≡ followed_by (summary_of (listed xs)) (summary_of (before x done))
summary_pushed xs x small = ap summary_of (listed-append xs (x ∷ [])) ∙ summary-join (listed xs) (before x done) small

pub summary_taken : (xs : List OneItem) (n : ℕ) (d : OneItem) → n < length xs → window (unroll (before (get_or xs n d) done)) ≤ 16777215
    → summary_of (listed (take (n + 1) xs)) ≡ followed_by (summary_of (listed (take n xs))) (summary_of (before (get_or xs n d) done))
summary_taken xs n d h small =
    ap (λ l. summary_of (listed l)) (take_more xs n d h) ∙ summary_pushed (take n xs) (get_or xs n d) small

still_more : (n : ℕ) → nat_lt 1048576 n ≡ nat_lt 1048576 (min n 1048577)
still_more n = grind arith

-- a summary says what refuses a whole circuit
pub check_judged : (items : Items) → check_of items ≡ judged (summary_of items)
unfolding check_of
check_judged items =
    ap (λ b. if b then Some LookbackTooFar else if nat_lt 1048576 (length (unroll items)) then Some TooManySteps else None) (looks_too_far_window 0 (unroll items))
    ∙ ap (λ b. if nat_lt 0 (window (unroll items)) then Some LookbackTooFar else if b then Some TooManySteps else None) (still_more (length (unroll items)))

-- so a circuit that nothing refuses has at most 1,048,576 steps
pub few_steps : (items : Items) → check_of items ≡ None → length (unroll items) ≤ 1048576
unfolding check_of
few_steps items e = counted (looks_too_far 0 (unroll items)) (nat_lt 1048576 (length (unroll items))) refl e
  where
    counted : (a b : Bool) → nat_lt 1048576 (length (unroll items)) ≡ b → (if a then Some LookbackTooFar else if b then Some TooManySteps else None) ≡ None → length (unroll items) ≤ 1048576
    counted true b t e = cc
    counted false true t e = cc
    counted false false t e = grind (arith, t, nat_tests)

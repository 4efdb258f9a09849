-- Numbers over the unrolled steps.
use Rattle.stab_items.proofs.Names.{◌≡◌, ◌≤◌, ◌<◌, refl, ap, sym, ◌∙◌, Some, append-nil, ℕ, ◌+◌, ◌*◌, ◌-◌, zero, suc, max, min, Bool, true, false, if◌then◌else◌, List, [], ◌∷◌, ◌++◌, ◌||◌, nat_lt, length, arith, append_assoc, length-append, list_any, Kind, Items, OneItem, done, next, block, join, operation, repeat, before, Step, detector, steps_of, detector_in, detector_of, rounds, unroll, makes, records_of, is_detector, detectors_of, lookbacks, looks_too_far, greatest, window}
use Rattle.stab_instructions.specs.declared.operation.Kind.TheVariants as kind

times_more : (n w : ℕ) → suc n * w ≡ w + n * w
times_more n w = omega arith

pub length-rounds : (n : ℕ) (ss : List Step) → length (rounds n ss) ≡ n * length ss
length-rounds zero ss = omega arith
length-rounds (suc n) ss = length-append ss (rounds n ss) ∙ ap (λ m. length ss + m) (length-rounds n ss) ∙ sym (times_more n (length ss))

pub records_of-append : (ss ts : List Step) → records_of (ss ++ ts) ≡ records_of ss + records_of ts
records_of-append [] ts = omega arith
records_of-append (s ∷ ss) ts = omega (arith, records_of-append ss ts)

pub records_of-rounds : (n : ℕ) (ss : List Step) → records_of (rounds n ss) ≡ n * records_of ss
records_of-rounds zero ss = omega arith
records_of-rounds (suc n) ss = records_of-append ss (rounds n ss) ∙ ap (λ m. records_of ss + m) (records_of-rounds n ss) ∙ sym (times_more n (records_of ss))

detectors_more : (b : Bool) (n m k : ℕ) → n ≡ m + k → (if b then 1 + n else n) ≡ (if b then 1 + m else m) + k
detectors_more true n m k e = omega (arith, e)
detectors_more false n m k e = e

pub detectors_of-append : (ss ts : List Step) → detectors_of (ss ++ ts) ≡ detectors_of ss + detectors_of ts
detectors_of-append [] ts = omega arith
detectors_of-append (s ∷ ss) ts = detectors_more (is_detector s) (detectors_of (ss ++ ts)) (detectors_of ss) (detectors_of ts) (detectors_of-append ss ts)

pub detectors_of-rounds : (n : ℕ) (ss : List Step) → detectors_of (rounds n ss) ≡ n * detectors_of ss
detectors_of-rounds zero ss = omega arith
detectors_of-rounds (suc n) ss = detectors_of-append ss (rounds n ss) ∙ ap (λ m. detectors_of ss + m) (detectors_of-rounds n ss) ∙ sym (times_more n (detectors_of ss))

later_max : (l a b m s : ℕ) → max l (max a (b - m) - s) ≡ max (max l (a - s)) (b - (s + m))
later_max l a b m s = omega arith

pub window-append : (ss ts : List Step) → window (ss ++ ts) ≡ max (window ss) (window ts - records_of ss)
window-append [] ts = omega arith
window-append (s ∷ ss) ts = ap (λ w. max (greatest (lookbacks s)) (w - makes s)) (window-append ss ts) ∙ later_max (greatest (lookbacks s)) (window ss) (window ts) (records_of ss) (makes s)

-- a later round reaches no further than the first
window_later : (n : ℕ) (ss : List Step) → window (rounds n ss) ≤ window ss
window_later zero ss = omega arith
window_later (suc n) ss = omega (arith, window-append ss (rounds n ss), window_later n ss)

pub window-rounds : (n : ℕ) (ss : List Step) → 0 < n → window (rounds n ss) ≡ window ss
window-rounds zero ss h = absurd (omega arith)
window-rounds (suc n) ss h = omega (arith, window-append ss (rounds n ss), window_later n ss)

-- the steps of items one after another
pub unroll-join : (xs ys : Items) → unroll (join xs ys) ≡ unroll xs ++ unroll ys
unroll-join done ys = refl
unroll-join (next op rest) ys = ap (λ l. steps_of op.kind ++ l) (unroll-join rest ys) ∙ sym (append_assoc (steps_of op.kind) (unroll rest) (unroll ys))
unroll-join (block c t body rest) ys = ap (λ l. rounds c (unroll body) ++ l) (unroll-join rest ys) ∙ sym (append_assoc (rounds c (unroll body)) (unroll rest) (unroll ys))

lt_max : (m k g : ℕ) → (nat_lt m k || nat_lt m g) ≡ nat_lt m (max k g)
lt_max m k g = grind arith

short_step : (m l w k : ℕ) → (nat_lt m l || nat_lt (m + k) w) ≡ nat_lt m (max l (w - k))
short_step m l w k = grind arith

any_greatest : (m : ℕ) (ks : List ℕ) → list_any (nat_lt m) ks ≡ nat_lt m (greatest ks)
any_greatest m [] = grind arith
any_greatest m (k ∷ ks) = ap (λ b. nat_lt m k || b) (any_greatest m ks) ∙ lt_max m k (greatest ks)

-- some step looks too far if the reach does
pub looks_too_far_window : (m : ℕ) (ss : List Step) → looks_too_far m ss ≡ nat_lt m (window ss)
looks_too_far_window m [] = grind arith
looks_too_far_window m (s ∷ ss) =
    ap (λ b. b || looks_too_far (m + makes s) ss) (any_greatest m (lookbacks s))
    ∙ ap (λ b. nat_lt m (greatest (lookbacks s)) || b) (looks_too_far_window (m + makes s) ss)
    ∙ short_step m (greatest (lookbacks s)) (window ss) (makes s)

-- numbers that stop growing
pub capped_sum : (a b cap : ℕ) → min (min a cap + min b cap) cap ≡ min (a + b) cap
capped_sum a b cap = omega arith

pub capped_left : (w r cap : ℕ) → w ≤ cap → w - min r cap ≡ w - r
capped_left w r cap h = omega arith

pub capped_times : (n a cap : ℕ) → min (n * min a cap) cap ≡ min (n * a) cap
capped_times zero a cap = omega arith
capped_times (suc n) a cap = grind arith

-- a detector has one step
detector_in_step : (k : Kind) (ks : List ℕ) → detector_in k ≡ Some ks → steps_of k ≡ detector ks ∷ []
detector_in_step (kind.Detector located) ks e = grind arith
detector_in_step (kind.Gate g qubits) ks e = absurd (cc)
detector_in_step (kind.Controlled axis pairs) ks e = absurd (cc)
detector_in_step (kind.Swap pairs) ks e = absurd (cc)
detector_in_step (kind.Measure m targets) ks e = absurd (cc)
detector_in_step (kind.Reset axis qubits) ks e = absurd (cc)
detector_in_step (kind.MeasureProducts products) ks e = absurd (cc)
detector_in_step (kind.ObservableInclude j more) ks e = absurd (cc)
detector_in_step kind.Tick ks e = absurd (cc)
detector_in_step (kind.QubitCoords located) ks e = absurd (cc)
detector_in_step (kind.ShiftCoords coordinates) ks e = absurd (cc)

pub detector_step : (x : OneItem) (ks : List ℕ) → detector_of x ≡ Some ks → unroll (before x done) ≡ detector ks ∷ []
detector_step (operation op) ks e = append-nil (steps_of op.kind) ∙ detector_in_step op.kind ks e
detector_step (repeat count tag body) ks e = absurd (cc)

-- Doubtful marks: among items one after another, and where they are.
use Rattle.stab_error_model.proofs.Names.{◌≡◌, ℕ, zero, suc, ◌+◌, ◌*◌, ◌<◌, ◌≤◌, sym, ap, ◌∙◌, Bool, true, false, List, [], ◌∷◌, ◌++◌, append_assoc, take, get_or, length, arith, All, Option, Some, None, if◌then◌else◌, length-append, length-map, All-append, All-cons, All-nil, Kind, Items, OneItem, next, block, join, one, steps_of, unroll, rounds, length-rounds, is_idle, marks_by, marks_of}
use Rattle.stab_instructions.specs.declared.operation.Kind.TheVariants as kind
use Rattle.stab_items.specs.Items.{done, before, listed}
use Rattle.stab_items.specs.Steps.{most_steps}
use Rattle.stab_items.specs.declared.summary.Summary.{Summary}
use Rattle.stab_items.specs.inner.Summaries.{summary_of}
use Rattle.stab_error_model.specs.declared.doubts.Doubt.{Doubt}
use Rattle.stab_error_model.specs.declared.doubts.DoubtfulMark.{DoubtfulMark}
use Rattle.stab_error_model.specs.Doubts.{doubt_about, doubts_at, doubtful, in_first_round, doubts_from}
use Rattle.stab_error_model.proofs.MarkLemmas.{items-more}

-- how many steps a block and the rest have
block-and-rest : (count : ℕ) (tag : List ℕ) (body rest : Items) → length (unroll (block count tag body rest)) ≡ count * length (unroll body) + length (unroll rest)
block-and-rest count tag body rest = length-append (rounds count (unroll body)) (unroll rest) ∙ ap (λ k. k + length (unroll rest)) (length-rounds count (unroll body))

-- items one after another
pub doubts-join : (t : ℕ) (xs ys : Items) → doubts_from t (join xs ys) ≡ doubts_from t xs ++ doubts_from (t + length (unroll xs)) ys
doubts-join t done ys = ap (λ k. doubts_from k ys) (omega arith)
doubts-join t (next op rest) ys =
    let here : ℕ = length (steps_of op.kind) in
    let own : List DoubtfulMark = doubtful (marks_by t op.tag op.kind) in
    let sum : (t + here) + length (unroll rest) ≡ t + length (unroll (next op rest)) = omega (arith, length-append (steps_of op.kind) (unroll rest)) in
    ap (λ ds. own ++ ds) (doubts-join (t + here) rest ys ∙ ap (λ k. doubts_from (t + here) rest ++ doubts_from k ys) sum)
    ∙ sym (append_assoc own (doubts_from (t + here) rest) (doubts_from (t + length (unroll (next op rest))) ys))
doubts-join t (block count tag body rest) ys =
    let here : ℕ = count * length (unroll body) in
    let own : List DoubtfulMark = in_first_round count (doubts_from t body) in
    let sum : (t + here) + length (unroll rest) ≡ t + length (unroll (block count tag body rest)) = omega (arith, block-and-rest count tag body rest) in
    ap (λ ds. own ++ ds) (doubts-join (t + here) rest ys ∙ ap (λ k. doubts_from (t + here) rest ++ doubts_from k ys) sum)
    ∙ sym (append_assoc own (doubts_from (t + here) rest) (doubts_from (t + length (unroll (block count tag body rest))) ys))

-- one item more
pub doubts-more : (t : ℕ) (xs : List OneItem) (k : ℕ) (x : OneItem) → k < length xs → x ≡ get_or xs k x
    → doubts_from t (listed (take (k + 1) xs)) ≡ doubts_from t (listed (take k xs)) ++ doubts_from (t + length (unroll (listed (take k xs)))) (before x done)
doubts-more t xs k x lt is = ap (doubts_from t) (items-more xs k x lt is) ∙ doubts-join t (listed (take k xs)) (before x done)

-- the summary of one item has its steps, if these are not too many
pub summed : (x : OneItem) (s : Summary) → s ≡ summary_of (before x done) → length (unroll (before x done)) ≤ most_steps → s.steps ≡ length (unroll (before x done))
summed x s is few = omega (arith, ap (λ (t : Summary). t.steps) is, few)

-- doubtful marks are at steps

abbrev pub IsBefore : ℕ → DoubtfulMark → Type 0
IsBefore end d = d.step < end

at-before : (t end : ℕ) (d : Option Doubt) → t < end → All (IsBefore end) (doubts_at t d)
at-before t end None lt = All-nil (IsBefore end)
at-before t end (Some d) lt = All-cons (IsBefore end) (record { doubt = d; step = t }) [] lt (All-nil (IsBefore end))

targets-before : (t end : ℕ) (tag qubits : List ℕ) → t + length qubits ≤ end → All (IsBefore end) (doubtful (marks_of t tag qubits))
targets-before t end tag [] le = All-nil (IsBefore end)
targets-before t end tag (q ∷ qs) le =
    All-append (IsBefore end) (doubts_at t (doubt_about tag (q ∷ qs))) [] (at-before t end (doubt_about tag (q ∷ qs)) (omega (arith, le))) (All-nil (IsBefore end))

kind-before : (t end : ℕ) (tag : List ℕ) (k : Kind) → t + length (steps_of k) ≤ end → All (IsBefore end) (doubtful (marks_by t tag k))
kind-before t end tag (kind.Gate g qubits) le = idle (is_idle g)
  where
    idle : (b : Bool) → All (IsBefore end) (doubtful (if b then marks_of t tag qubits else []))
    idle true = targets-before t end tag qubits (omega (arith, le, length-map qubits (one g)))
    idle false = All-nil (IsBefore end)
kind-before t end tag (kind.Controlled axis pairs) le = All-nil (IsBefore end)
kind-before t end tag (kind.Swap pairs) le = All-nil (IsBefore end)
kind-before t end tag (kind.Measure m targets) le = All-nil (IsBefore end)
kind-before t end tag (kind.Reset axis qubits) le = All-nil (IsBefore end)
kind-before t end tag (kind.MeasureProducts products) le = All-nil (IsBefore end)
kind-before t end tag (kind.Detector located) le = All-nil (IsBefore end)
kind-before t end tag (kind.ObservableInclude j ks) le = All-nil (IsBefore end)
kind-before t end tag kind.Tick le = All-nil (IsBefore end)
kind-before t end tag (kind.QubitCoords located) le = All-nil (IsBefore end)
kind-before t end tag (kind.ShiftCoords coordinates) le = All-nil (IsBefore end)

pub doubts-before : (t end : ℕ) (items : Items) → t + length (unroll items) ≤ end → All (IsBefore end) (doubts_from t items)
doubts-before t end done le = All-nil (IsBefore end)
doubts-before t end (next op rest) le =
    let sum : length (unroll (next op rest)) ≡ length (steps_of op.kind) + length (unroll rest) = length-append (steps_of op.kind) (unroll rest) in
    All-append (IsBefore end) (doubtful (marks_by t op.tag op.kind)) (doubts_from (t + length (steps_of op.kind)) rest)
    (kind-before t end op.tag op.kind (omega (arith, le, sum)))
    (doubts-before (t + length (steps_of op.kind)) end rest (omega (arith, le, sum)))
doubts-before t end (block zero tag body rest) le = doubts-before (t + zero * length (unroll body)) end rest (omega (arith, le))
doubts-before t end (block (suc n) tag body rest) le =
    let sum : length (unroll (block (suc n) tag body rest)) ≡ suc n * length (unroll body) + length (unroll rest) = block-and-rest (suc n) tag body rest in
    let first : length (rounds (suc n) (unroll body)) ≡ length (unroll body) + length (rounds n (unroll body)) = length-append (unroll body) (rounds n (unroll body)) in
    All-append (IsBefore end) (doubts_from t body) (doubts_from (t + suc n * length (unroll body)) rest)
    (doubts-before t end body (omega (arith, le, sum, first, length-rounds (suc n) (unroll body))))
    (doubts-before (t + suc n * length (unroll body)) end rest (omega (arith, le, sum)))

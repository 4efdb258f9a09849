-- The calls that edit a circuit.
use Rattle.stab_items.proofs.Names.{◌≡◌, ◌≤◌, ◌<◌, refl, ap, sym, ◌∙◌, subst, ℕ, ◌+◌, min, Bool, true, false, List, [], ◌∷◌, ◌++◌, length, take, drop, get_or, arith, nat_lt, if◌then◌else◌, Option, Some, None, Result, Ok, Err, slice_get-get_or, slice_get, Refusal, PlaceOutOfRange, TooDeep, QubitOutOfRange, OutOfMemory, Fault, whole, IsCallFault, Summary, Edit, Insert, Replace, Delete, OneItem, listed, entries, depth, check_within, qubits_of, Path, edited_in, edited, list_refusal, list_verdict, edit_refusal, verdict, inner, taken_at, taken_in, taken, IsInsert, summary_of, judged, Splice, splice_at, spliced, summed, IsShallow}
use Rattle.stab_items.proofs.SummaryLemmas.{check_judged}
use Rattle.stab_items.proofs.EditLemmas.{if_ok, lt_holds, rebuilds}
use Rattle.stab_items.proofs.SpliceLemmas.{edited_spliced}

-- blocks are nested at most 16 deep if they are so by the summary
pub result_shallow : (q : Result (List OneItem) Refusal) (t : Summary) → Ok t ≡ summed q → t.depth ≤ 16 → IsShallow q
result_shallow (Ok ys) t e deep = let same : t ≡ summary_of (listed ys) = cc in omega (arith, deep, ap (λ s. s.depth) same)
result_shallow (Err r) t e deep = absurd (cc)

-- a edit that takes out nothing is an insertion
taken_there : (edit : Edit) (xs : List OneItem) (s : Splice) → splice_at edit (length xs) ≡ Ok s → taken_at edit xs ≡ None → IsInsert edit
taken_there (Insert at x) xs s e f = tt
taken_there (Replace at x) xs s e f =
    let h = if_ok (nat_lt at.position (length xs)) (record { first = at.position; following = at.position + 1; put = x ∷ [] }) s PlaceOutOfRange e in
    let found : slice_get xs at.position ≡ Some (get_or xs at.position x) = slice_get-get_or xs at.position x (lt_holds at.position (length xs) h.0) in
    absurd (cc)
taken_there (Delete at) [] s e f =
    let h = if_ok (nat_lt at.position 0) (record { first = at.position; following = at.position + 1; put = [] }) s PlaceOutOfRange e in
    let none : at.position < 0 = lt_holds at.position 0 h.0 in
    absurd (omega arith)
taken_there (Delete at) (x ∷ xs) s e f =
    let h = if_ok (nat_lt at.position (length (x ∷ xs))) (record { first = at.position; following = at.position + 1; put = [] }) s PlaceOutOfRange e in
    let found : slice_get (x ∷ xs) at.position ≡ Some (get_or (x ∷ xs) at.position x) = slice_get-get_or (x ∷ xs) at.position x (lt_holds at.position (length (x ∷ xs)) h.0) in
    absurd (cc)

ok_splice : (q : Result Splice Refusal) (xs ys : List OneItem) → spliced xs q ≡ Ok ys → (s : Splice) × (q ≡ Ok s) × (ys ≡ take s.first xs ++ (s.put ++ drop s.following xs))
ok_splice (Ok s) xs ys e = (s, refl, cc)
ok_splice (Err r) xs ys e = absurd (cc)

takes_in : (edit : Edit) (bs : List ℕ) (xs ys : List OneItem) → edited_in edit bs xs ≡ Ok ys → taken_in edit bs xs ≡ None → IsInsert edit
takes_in edit [] xs ys e f =
    let s = ok_splice (splice_at edit (length xs)) xs ys (sym (edited_spliced edit [] xs) ∙ e) in
    taken_there edit xs s.0 s.1 f
takes_in edit (b ∷ bs) xs ys e f =
    let r = rebuilds (edited_in edit bs) b xs ys (slice_get xs b) refl e in
    takes_in edit bs (entries r.body) r.within r.edited (sym (ap (λ g. taken_in edit bs (inner g)) r.found) ∙ f)

pub replaced : (path : Path) (x : OneItem) (xs ys : List OneItem) → edited (Replace path x) xs ≡ Ok ys → taken (Replace path x) xs ≡ None → ⊥
replaced path x xs ys e f = takes_in (Replace path x) path.blocks xs ys e f

pub deleted : (path : Path) (xs ys : List OneItem) → edited (Delete path) xs ≡ Ok ys → taken (Delete path) xs ≡ None → ⊥
deleted path xs ys e f = takes_in (Delete path) path.blocks xs ys e f

-- the verdict on a list of this summary
shallow : (d : ℕ) → min d 17 ≤ 16 → nat_lt 16 d ≡ false
shallow d h = grind arith

pub verdict_of : (n : ℕ) (q : Result (List OneItem) Refusal) (s : Summary) → Ok s ≡ summed q → s.depth ≤ 16 → list_verdict n q ≡ (if nat_lt n s.qubits then Some QubitOutOfRange else judged s)
verdict_of n (Ok ys) s e h =
    let same : s ≡ summary_of (listed ys) = cc in
    let deep : min (depth (listed ys)) 17 ≤ 16 = omega (arith, h, ap (λ t. t.depth) same) in
    ap (λ b. if b then Some TooDeep else check_within n (listed ys)) (shallow (depth (listed ys)) deep)
    ∙ ap (λ r. if nat_lt n (qubits_of (listed ys)) then Some QubitOutOfRange else r) (check_judged (listed ys))
    ∙ ap (λ t. if nat_lt n t.qubits then Some QubitOutOfRange else judged t) (sym same)
verdict_of n (Err r) s e h = absurd (cc)

-- the fault of a call, by its verdict

pub call_fault : (v : Option Refusal) (r : Refusal) (f : Fault) → v ≡ Some r → f ≡ whole r → IsCallFault v f
call_fault v r f e h = subst (λ w. IsCallFault w f) (sym e) h

pub want_fault : (v : Option Refusal) (f : Fault) → v ≡ None → f ≡ whole OutOfMemory → IsCallFault v f
want_fault v f e h = subst (λ w. IsCallFault w f) (sym e) h

pub no_want : (v : Option Refusal) (r : Refusal) (edit : Edit) → v ≡ Some r → v ≡ None → IsInsert edit
no_want v r edit e h =
    let both : Some r ≡ None = sym e ∙ h in
    absurd (cc)

-- what refuses an edit for any circuit that it leaves refuses it on n qubits
refused_too : (n : ℕ) (q : Result (List OneItem) Refusal) (r : Refusal) → list_refusal q ≡ Some r → list_verdict n q ≡ Some r
refused_too n (Err s) r e = e
refused_too n (Ok ys) r e = by_depth (nat_lt 16 (depth (listed ys))) e
  where
    by_depth : (b : Bool) → (if b then Some TooDeep else None) ≡ Some r → (if b then Some TooDeep else check_within n (listed ys)) ≡ Some r
    by_depth true h = h
    by_depth false h = absurd (cc)

pub refused_on : (n : ℕ) (edit : Edit) (xs : List OneItem) (r : Refusal) (f : Fault) → edit_refusal edit xs ≡ Some r → f ≡ whole r → IsCallFault (verdict n edit xs) f
refused_on n edit xs r f e h = call_fault (verdict n edit xs) r f (refused_too n (edited edit xs) r e) h

pub no_want_on : (n : ℕ) (edit : Edit) (xs : List OneItem) (r : Refusal) → edit_refusal edit xs ≡ Some r → verdict n edit xs ≡ None → IsInsert edit
no_want_on n edit xs r e h = no_want (verdict n edit xs) r edit (refused_too n (edited edit xs) r e) h
